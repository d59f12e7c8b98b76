-- In every run after an accepted setup each state passes, so what holds of every heap that passes holds in each state (`through`),
-- for every way that keeps the promise `Kept`, and so for the rules' own (`runs`). Assumes nothing.
use mathlib.Core.List.{List, [], ◌∷◌}
use Rattle.rules.specs.Calls.{State}
use Rattle.promises.specs.Ways.{Way, ours}
use Rattle.promises.specs.Room.{Room}
use Rattle.promises.specs.Choice.{Choice}
use Rattle.promises.specs.BestFit.{BestFit}
use Rattle.promises.specs.Apart.{Apart}
use Rattle.promises.specs.Refusing.{Refusing}
use Rattle.promises.specs.Kept.{Passing, Kept}
use Rattle.promises.specs.Order.{Order}
use Rattle.promises.specs.Splitting.{Splitting}
use Rattle.promises.specs.AsFound.{AsFound}
use Rattle.promises.specs.Coalescing.{Coalescing}
use Rattle.promises.specs.Moves.{Moves}
use Rattle.promises.specs.Runs.{Step, Calls, Writes, after_step, MayStep, IsRun, Along, Begins, ThroughRuns, Runs}
use Rattle.promises.proofs.KeptLaws.{kept}
use Rattle.promises.proofs.RefusingLaws.{refusing}
use Rattle.promises.proofs.RoomLaws.{room}
use Rattle.promises.proofs.ApartLaws.{apart}
use Rattle.promises.proofs.ChoiceLaws.{choice}
use Rattle.promises.proofs.BestFitLaws.{best_fit_lem}
use Rattle.promises.proofs.OrderLaws.{order}
use Rattle.promises.proofs.SplittingLaws.{splitting}
use Rattle.promises.proofs.AsFoundLaws.{as_found_lem}
use Rattle.promises.proofs.CoalescingLaws.{coalescing}
use Rattle.promises.proofs.MovesLaws.{moves}

module _ (way : Way) (keeps : Kept way) where
  step_keeps : (x : Step) (s : State) → MayStep x s → Passing s → Passing (after_step way x s)
  step_keeps (Calls call) s m p = keeps.calls call s p
  step_keeps (Writes ss) s m p = keeps.writes ss s p m

  -- the first state passes
  begins_passing : (s : State) → Begins way s → Passing s
  begins_passing s b = rw (b.words, b.heap) (keeps.setup b.table b.donor b.merge b.before.words b.before.heap b.accepted)

  -- what holds of every heap that passes holds in each state of a run
  module _ (P : State → Type 0) (holds : (s : State) → Passing s → P s) where
    along : (xs : List Step) (s : State) → IsRun way xs s → Passing s → Along way P xs s
    along [] s r p = holds s p
    along (x ∷ xs) s r p = (holds s p, along xs (after_step way x s) r.1 (step_keeps x s r.0 p))

    pub through : ThroughRuns way P
    through s b xs r = along xs s r (begins_passing s b)

-- the promises about single calls hold in each state
pub keeping_running : (way : Way) → Kept way → Refusing way → Room way → Apart way → Choice way → BestFit way → Order way → Splitting way → AsFound way
    → Coalescing way → Moves way → Runs way
keeping_running way keeps refuses room apart choice fit order splitting found coalescing moves =
    record {
      passes = through way keeps _ (λ s p. p);
      refused = through way keeps _ (λ s p call r. refuses.exactly call s.words s.heap r);
      room = through way keeps _ (λ s p. room s.words s.heap p);
      apart = through way keeps _ (λ s p. apart s.words s.heap p);
      choice = through way keeps _ (λ s p. choice s.words s.heap p);
      best_fit = through way keeps _ (λ s p. fit s.words s.heap p);
      order = through way keeps _ order;
      splitting = through way keeps _ (λ s p. splitting s.words s.heap p);
      as_found = through way keeps _ (λ s p. found s.words s.heap p);
      coalescing = through way keeps _ (λ s p. coalescing s.words s.heap p);
      moves = through way keeps _ (λ s p. moves s.words s.heap p);
    }

pub runs : Runs ours
runs = keeping_running ours kept refusing room apart choice best_fit_lem order splitting as_found_lem coalescing moves
