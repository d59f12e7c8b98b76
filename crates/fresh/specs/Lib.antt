pub mod FirstHeaders
