-- What the code makes of a block's words: these definitions mirror the code.
-- That on a heap that passes they are the stores of the rules is proved (`BlocksMeaning`).
use Rattle.std.specs.Prelude.{cond, ◌&&◌, List, ◌++◌, ℕ, zero, suc, ◌-◌, ◌/◌, leb, length, take, drop, replicate}
use Rattle.region.specs.Words.{word, store}

unfoldable pub cleared_m : List ℕ → ℕ → ℕ → List ℕ
cleared_m ws b end =
    let from : ℕ = b / 4 in
    let to : ℕ = end / 4 in
    cond (leb from to && leb to (length ws))
    (take from ws ++ (replicate (to - from) 0 ++ drop (to - from) (drop from ws)))
    ws

-- so many words from number k on, one after the other
unfoldable pub copied_m : ℕ → List ℕ → ℕ → ℕ → ℕ → List ℕ
copied_m zero ws from to k = ws
copied_m (suc left) ws from to k = copied_m left (store ws to k (word ws from k)) from to (suc k)
