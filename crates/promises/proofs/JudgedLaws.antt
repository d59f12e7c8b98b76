-- Each call is a list of tests for refusal before an acceptance. If the tests decide the reasons, their order goes up, and no reason is left out,
-- then the first reason that holds is given (`judged_first`), and a refusal changes nothing (`judged_keeps`). `Judging` says this of a call.
-- Assumes nothing.
use mathlib.Core.Path.{◌≡◌, refl, sym, ap, ◌∙◌}
use mathlib.Core.Logic.{◌↔◌}
use mathlib.Core.Bool.{Bool, true, false, not, false≢true}
use mathlib.Core.List.Memᴰ
use mathlib.Core.List.{List, [], ◌∷◌, map}
use Prim.Native.Nat.{ℕ, suc, ◌≤◌, ◌<◌}
use native.Mathlib.Omega.{arith}
use Rattle.lists.specs.Lists.{Mem}
use Rattle.lists.proofs.ListsLaws.{Decides, meaning, denied}
use Rattle.record.specs.declared.answers.Answer.{Answer}
use Rattle.record.specs.declared.answers.Answer.TheVariants.{Refused}
use Rattle.record.specs.declared.answers.Refusal.{Refusal}
use Rattle.record.specs.declared.answers.Refusal.TheVariants.{HeapFails}
use Rattle.record.specs.declared.heap.Heap.{Heap}
use Rattle.record.specs.Answers.{figures_of}
use Rattle.record.proofs.AnswersLaws.{numbered}
use Rattle.rules.specs.Check.{Passes, passes}
use Rattle.rules.specs.Outcome.{Outcome, Refusals, judged, unchanged}
use Rattle.rules.specs.Calls.{Call, Patrol, step}
use Rattle.rules.proofs.CheckLaws.{passes_iff}
use Rattle.rules.proofs.OutcomeLaws.{Failed, judged_so}
use Rattle.promises.specs.Kept.{Accepted}
use Rattle.promises.specs.Refusing.{Because, fails, patrol_fails, asks_check, order_of, refused_record}
use Rattle.promises.proofs.ReasonLaws.{passes?}

-- an answer with refusal number 0 is no refusal
pub accepts : {a : Answer} → (figures_of a).refusal ≡ 0 → Accepted a
accepts z r q = omega (arith, (numbered r).0, sym (ap (λ (x : Answer). (figures_of x).refusal) q) ∙ z)

-- if no refusal is given, all tests have failed
pub accepted_made : (h : Heap) (o : Outcome) (ts : Refusals) → Accepted (judged h ts o).answer → Failed ts × (judged h ts o ≡ o)
accepted_made h o ts =
    judged_so (λ x. Accepted x.answer → Failed ts × (x ≡ o)) h o ts (λ r a. absurd (a r refl)) (λ k a. (k, refl))

-- a call that only answers changes nothing, accepted or refused
pub unchanged_judged : (h : Heap) (a : Answer) (ts : Refusals) → judged h ts (unchanged h a) ≡ unchanged h (judged h ts (unchanged h a)).answer
unchanged_judged h a ts = judged_so (λ x. x ≡ unchanged h x.answer) h (unchanged h a) ts (λ r. refl) (λ _. refl)

-- each test decides its reason among the reasons B, if the reasons before it do not hold
abbrev pub Decided : (Refusal → Type 0) → Refusals → Type 0
Decided B [] = Unit {0}
Decided B (t ∷ ts) = Decides t.0 (B t.1) × ((B t.1 → ⊥) → Decided B ts)

-- the refusals are in their order, from number n of it on
abbrev pub OrderRises : ℕ → Refusals → Type 0
OrderRises n [] = Unit {0}
OrderRises n (t ∷ ts) = (n ≤ order_of t.1) × OrderRises (suc (order_of t.1)) ts

-- the refusals that the tests give
abbrev refusals_of : Refusals → List Refusal
refusals_of ts = map (λ (t : Bool × Refusal). t.1) ts

-- every reason that holds has a test
abbrev pub Stands : (Refusal → Type 0) → Refusals → Type 0
Stands B ts = (r : Refusal) → B r → Mem r (refusals_of ts)

-- r is the first in the order whose reason holds
abbrev IsFirst : (Refusal → Type 0) → Refusal → Type 0
IsFirst B r = B r × ((q : Refusal) → order_of q < order_of r → B q → ⊥)

-- none comes before n in the order
higher : (n : ℕ) (ts : Refusals) → OrderRises n ts → {r : Refusal} → Mem r (refusals_of ts) → n ≤ order_of r
higher n [] u {r = r} x'' = elim x'' [ ]
higher n (t ∷ ts) u (Memᴰ.head e) = rw e u.0
higher n (t ∷ ts) u (Memᴰ.tail m) = let a = higher (suc (order_of t.1)) ts u.1 m in omega arith

module _ (B : Refusal → Type 0) (h : Heap) (o : Outcome) (accepted : Accepted o.answer) where
  -- the refusal that is given is the first whose reason holds
  pub judged_first : (n : ℕ) (ts : Refusals) → OrderRises n ts → Stands B ts → Decided B ts
      → (r : Refusal) → ((judged h ts o).answer ≡ Refused r) ↔ IsFirst B r
  judged_first n [] u s d r = (λ e. absurd (accepted r e), λ f. absurd (Memᴰ.not-nil (s r f.0)))
  judged_first n ((true, x) ∷ ts) u s (decides, _) r =
      let b = decides.0 refl in (
        λ e. let q : r ≡ x = cc in rw q (b, λ y l k. lower y l (s y k)),
        λ f. no_other f b (s r f.0),
      )
    where
      lower : (y : Refusal) → order_of y < order_of x → Mem y (x ∷ refusals_of ts) → ⊥
      lower y l (Memᴰ.head e) = let q = ap order_of e in omega arith
      lower y l (Memᴰ.tail m) = let a = higher (suc (order_of x)) ts u.1 m in omega arith

      no_other : IsFirst B r → B x → Mem r (x ∷ refusals_of ts) → Refused x ≡ Refused r
      no_other f b (Memᴰ.head e) = ap Refused (sym e)
      no_other f b (Memᴰ.tail m) = absurd (f.1 x (higher (suc (order_of x)) ts u.1 m) b)
  judged_first n ((false, x) ∷ ts) u s (decides, later) r =
      let none : B x → ⊥ = λ b. false≢true (decides.1 b) in
      judged_first (suc (order_of x)) ts u.1 (λ y k. further none y k (s y k)) (later none) r
    where
      further : (B x → ⊥) → (y : Refusal) → B y → Mem y (x ∷ refusals_of ts) → Mem y (refusals_of ts)
      further none y k (Memᴰ.head e) = absurd (none (rw e at k))
      further none y k (Memᴰ.tail m) = m

  -- a refusal changes nothing
  pub judged_keeps : (ts : Refusals) (r : Refusal) → (judged h ts o).answer ≡ Refused r
      → ((judged h ts o).heap ≡ h) × ((judged h ts o).stores ≡ [])
  judged_keeps ts r =
      judged_so (λ x. x.answer ≡ Refused r → (x.heap ≡ h) × (x.stores ≡ [])) h o ts (λ q e. (refl, refl)) (λ _ e. absurd (accepted r e))

-- the position of a refusal among those of a call
pub first : {x : Refusal} {xs : List Refusal} → Mem x (x ∷ xs)
first = Memᴰ.head refl

pub second : {x y : Refusal} {xs : List Refusal} → Mem x (y ∷ x ∷ xs)
second = Memᴰ.tail first

pub third : {x y z : Refusal} {xs : List Refusal} → Mem x (y ∷ z ∷ x ∷ xs)
third = Memᴰ.tail second

pub fourth : {x y z u : Refusal} {xs : List Refusal} → Mem x (y ∷ z ∷ u ∷ x ∷ xs)
fourth = Memᴰ.tail third

-- a call is such a list of tests before an acceptance
pub record Judging (call : Call) (ws : List ℕ) (h : Heap) : Type 0 where
  pub tests : Refusals
  pub made : Outcome
  pub accepted : Accepted made.answer
  pub is : step call ws h ≡ judged (refused_record call h) tests made
  pub rising : OrderRises 0 tests
  pub stands : Stands (Because ws h call) tests
  pub decided : Decided (Because ws h call) tests

module _ (ws : List ℕ) (h : Heap) where
  -- refusal 4 of every call but setup and the patrol
  pub fails_iff : (call : Call) → asks_check call ≡ true → Decides (not (passes ws h)) (Because ws h call HeapFails)
  fails_iff call s = meaning (denied (passes_iff ws h)) (λ n. fails s n) (failing call s)
    where
      failing : (call : Call) → asks_check call ≡ true → Because ws h call HeapFails → Passes ws h → ⊥
      failing call s (fails t n) = n
      failing (Patrol f) s (patrol_fails w) = absurd (false≢true s)

  -- if refusal 4 has no reason, the heap passes
  pub well : (call : Call) → asks_check call ≡ true → (Because ws h call HeapFails → ⊥) → Passes ws h
  well call s n = passes? ws h (λ k. n (fails s k))
