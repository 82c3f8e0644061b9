-- How a step that hears a packet is answered. Assumes nothing.
use Rattle.std.specs.Prelude.{ℕ, Ok, Err, Result}
use Rattle.std.specs.Option.{option_map}
use Rattle.moves.specs.Hearing.{Told}
use Rattle.moves.specs.Judging.{FaultView}
use Rattle.script.specs.Answers.{Reply}

-- the reply to a packet, by what its hearing told
abbrev pub heard_answer : Result Told ℕ → Reply
heard_answer (Ok x) = Ok (option_map (λ (f : FaultView). f.number) x.fault)
heard_answer (Err k) = Err k
