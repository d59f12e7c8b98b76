-- Passing the chunks at which there is nothing to mend, as the code does it. That a run loses nothing by it is proved (`skim_keeps`).
use Rattle.std.specs.Prelude.{Bool, cond, ◌&&◌, ◌||◌, List, ℕ, zero, suc, ◌-◌, ◌%◌, eqb, ltb}
use Rattle.record.specs.Heap.{at}
use Rattle.record.specs.Table.{least}
use Rattle.region.specs.declared.Links.{Links}
use Rattle.region.specs.Words.{word, forward, backward, size}
use Rattle.rules.specs.Kinds.{end_size}
use Rattle.patrol.specs.declared.skim.Rest.{Rest}
use Rattle.patrol.specs.Links.{can_follow_m}

abbrev pub links_at : List ℕ → ℕ → Links
links_at ws c = record { forward = word ws c forward; backward = word ws c backward }

-- the chunk at c, of so many bytes and with this second word, has the size that it should say
unfoldable pub is_right_m : List ℕ → ℕ → ℕ → ℕ → Bool
is_right_m ws c back z = eqb (back % 8 % 2) 1 || eqb (word ws c size) z

-- the chunk at c, above the start, has the links l, the one above it the links a
unfoldable pub is_whole_m : List ℕ → ℕ → ℕ → Links → Links → Bool
is_whole_m ws end c l a =
    can_follow_m end c least l.forward && eqb (a.backward - a.backward % 8) c && is_right_m ws c l.backward (l.forward - c)

unfoldable pub is_start_whole_m : ℕ → Links → Links → Bool
is_start_whole_m end l a = can_follow_m end 0 end_size l.forward && ltb a.backward 8 && ltb l.backward 8

unfoldable pub whole_at : List ℕ → ℕ → ℕ → Bool
whole_at ws end c = is_whole_m ws end c (links_at ws c) (links_at ws (word ws c forward))

unfoldable pub start_whole : List ℕ → ℕ → Bool
start_whole ws end = is_start_whole_m end (links_at ws 0) (links_at ws (word ws 0 forward))

abbrev pub rest : ℕ → ℕ → Rest
rest c left = record { chunk = at c; left = left }

unfoldable pub skim_above_m : ℕ → List ℕ → ℕ → ℕ → Rest
skim_above_m zero ws end c = rest c 0
skim_above_m (suc k) ws end c = cond (whole_at ws end c) (skim_above_m k ws end (word ws c forward)) (rest c (suc k))

unfoldable pub skim_m : ℕ → List ℕ → ℕ → ℕ → Rest
skim_m k ws end c =
    cond (eqb c 0)
    (cond (eqb k 0) (rest c k) (cond (start_whole ws end) (skim_above_m (k - 1) ws end (word ws 0 forward)) (rest c k)))
    (skim_above_m k ws end c)
