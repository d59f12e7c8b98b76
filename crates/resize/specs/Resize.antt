-- What giving a live block another size leaves, as the code makes it: these definitions mirror the code. The rules say what a call leaves.
use Rattle.std.specs.Prelude.{ℕ, ◌+◌, ◌-◌, ◌/◌, ◌%◌, ◌^◌, cond, List, nat_le, nat_lt, Option, is_none}
use Rattle.blocks.specs.Blocks.{copied_m}
use Rattle.grant.specs.Choose.{choose_m}
use Rattle.grant.specs.Serve.{AfterGrant, served_m}
use Rattle.replies.specs.Replies.{change_m, left}
use Rattle.record.specs.declared.answers.Answer.TheVariants.{Granted, Refused}
use Rattle.record.specs.declared.answers.Refusal.TheVariants.{NoRoom}
use Rattle.record.specs.declared.heap.Heap.{Heap}
use Rattle.record.specs.declared.sources.Source.{Source}
use Rattle.record.specs.Heap.{at, summary_of}
use Rattle.region.specs.Places.{block_at}
use Rattle.region.specs.Words.{word, store, forward, backward}
use Rattle.release.specs.Give.{given_up_m}
use Rattle.rules.specs.Calls.{State}
use Rattle.rules.specs.Statements.{Left}
use Rattle.seek.specs.declared.Place.{Place}
use Rattle.seek.specs.Seek.{size_in}

unfoldable pub shrink_m : List ℕ → List ℕ → Heap → Place → ℕ → Left
shrink_m ws table h p n =
    let rest : ℕ = (p.chunk.0 + n) % 2 ^ 32 in
    let s : State = given_up_m (store ws p.chunk.0 forward rest) table h (record { before = p.chunk; chunk = at rest; end = p.end; flags = p.flags }) in
    left (Granted (record { 0 = block_at p.chunk.0 }) (change_m (size_in p) n)) s.heap s.words

-- the chunk of the block, with the chunk below it as its link names it
unfoldable pub reread_m : List ℕ → Place → Place
reread_m ws p =
    let link : ℕ = word ws p.chunk.0 backward in
    record { before = at (link - link % 8); chunk = p.chunk; end = p.end; flags = p.flags }

-- what is made of a grant that the block moves to
unfoldable pub moved_m : List ℕ → Place → AfterGrant → Left
moved_m table p l =
    let ws : List ℕ = copied_m (size_in p / 4 - 2) l.words p.chunk.0 l.chunk.0 2 in
    let s : State = given_up_m ws table l.heap (reread_m ws p) in
    left (Granted (record { 0 = block_at l.chunk.0 }) (change_m (size_in p) l.size)) s.heap s.words

unfoldable pub move_m : List ℕ → List ℕ → Heap → Place → ℕ → Left
move_m ws table h p n =
    let source : Option Source = choose_m ws table h.heads (summary_of h) n in
    cond (is_none source) (left (Refused NoRoom) h ws) (moved_m table p (served_m ws table h source n))

unfoldable pub resize_m : List ℕ → List ℕ → Heap → Place → ℕ → Left
resize_m ws table h p n =
    cond (nat_lt (size_in p) n) (move_m ws table h p n)
    (cond (nat_le (n + 24) (size_in p)) (shrink_m ws table h p n)
    (left (Granted (record { 0 = block_at p.chunk.0 }) (change_m (size_in p) (size_in p))) h ws))
