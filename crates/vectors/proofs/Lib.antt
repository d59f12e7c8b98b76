pub mod DigestLaws
