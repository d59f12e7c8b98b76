-- What the code writes where it handles a chunk, word after word: these definitions mirror the code.
-- That together they are the rule's `mends` is proved (`handle_is`).
use Rattle.std.specs.Prelude.{Bool, cond, List, ℕ, ◌+◌, ◌-◌, ◌%◌, eqb}
use Rattle.region.specs.Words.{written, forward, backward, size}
use Rattle.rules.specs.Patrol.{mend}
use Rattle.rules.specs.Shape.{flags_at}

-- the backward link of the chunk at v names c; the flags stay
unfoldable pub mend_back_m : List ℕ → ℕ → ℕ → List ℕ
mend_back_m ws v c = written ws (mend ws v backward (c - c % 8 + flags_at ws v))

-- the words of the chunk at c beside its forward link, with the next one at v
unfoldable pub mend_own_m : List ℕ → ℕ → ℕ → List ℕ
mend_own_m ws c v =
    cond (eqb c 0) (mend_back_m ws c 0)
    (cond (eqb (flags_at ws c % 2) 1) ws (written ws (mend ws c size (v - c))))

-- all of it, where the run writes
unfoldable pub handle_m : Bool → List ℕ → ℕ → ℕ → List ℕ
handle_m writes ws c v =
    cond writes (mend_own_m (mend_back_m (written ws (mend ws c forward v)) v c) c v) ws
