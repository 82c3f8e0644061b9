use Rattle.std.proofs.Common.{Ok, rules, sym, subst, arith}
use Rattle.moves.specs.declared.state.State.{State}
use Rattle.moves.proofs.Bounds.{Bounded, moved_bounded}
use Rattle.runs.proofs.Calls.{hear_keeps}
use Rattle.cabin.specs.Views.{heard_view}
use Rattle.cabin.proofs.Hearings.{ahead_lawful}
use Rattle.cabin.proofs.cabin.Cabin.hear.Goals as goal

pub invariant_of-self : goal.invariant_of-self
invariant_of-self g c =
    let own = c.args.self.now in
    let tally = c.hear_records-tally in
    let before : Bounded own.state = record { seated = own.seated; begun = own.begun; ended = own.ended; valued = own.valued } in
    let lawful = ahead_lawful (g.W.WordCheck.answers c.args.check.now) own.state c.args.table.now c.args.packet.now tally.result (omega arith) tally.ensures.tally in
    let moved = moved_bounded tally.new.table tally.result.ahead own.state (g.C.Coin.bits c.args.coin.now) lawful before c.left-left.ensures.each in
    let after = subst (λ (x : State). Bounded x) (sym c.advance.ensures.state) moved in
    record { seated = after.seated; begun = after.begun; ended = after.ended; valued = after.valued }

pub returns-clause-keeps : goal.returns-clause-keeps
returns-clause-keeps g c =
    hear_keeps (g.W.WordCheck.answers c.args.check.now) c.args.self.now.state c.advance.new.self c.args.table.now c.hear_records-tally.new.table c.args.packet.now (g.C.Coin.bits c.args.coin.now) (Ok (heard_view c.heard.result)) (search rules) (search rules) (search rules) c.left-left.ensures.each
