-- `ask::count_members`: what is met and what is left come to the whole list.
use Rattle.ask.proofs.AskLaws.{CountsMembers}
use Rattle.ask.proofs.count_members.Given as goal

abbrev pub invariant-loop-met : goal.invariant-loop-met
invariant-loop-met l = CountsMembers l.region l.steps l.fn.first l.at l.met
