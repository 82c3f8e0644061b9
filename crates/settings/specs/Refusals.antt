-- The number of each refusal, and what a call that may be refused tells. Assumes nothing.
use Rattle.std.specs.Prelude.{ℕ, Bool, cond, Ok, Err, Result}
use Rattle.settings.specs.declared.refusal.Refusal.{Refusal}
use Rattle.settings.specs.declared.refusal.Refusal.TheVariants.{HallSize, LastPhase, CabinNumber, Choice, TableSize, WordsSize, OwnWord, BufferSize, Finished, PacketSize, Field, BranchPoint, Word, PhaseRule, ValueRule, StatusRule, CoinEmpty, CoinSource, Step}

abbrev pub refusal_number : Refusal → ℕ
refusal_number HallSize = 1
refusal_number LastPhase = 2
refusal_number CabinNumber = 3
refusal_number Choice = 4
refusal_number TableSize = 5
refusal_number WordsSize = 6
refusal_number OwnWord = 7
refusal_number BufferSize = 8
refusal_number Finished = 9
refusal_number PacketSize = 10
refusal_number Field = 11
refusal_number BranchPoint = 12
refusal_number Word = 13
refusal_number PhaseRule = 14
refusal_number ValueRule = 15
refusal_number StatusRule = 16
refusal_number CoinEmpty = 17
refusal_number CoinSource = 18
refusal_number Step = 19

-- what a call that may be refused tells: the values of what it made, or the refusal's number
abbrev pub told : {T V : Type 0} → (T → V) → Result T Refusal → Result V ℕ
told values (Ok x) = Ok (values x)
told values (Err e) = Err (refusal_number e)

-- refusal k where the test fails; tests that follow one another are made in this order
abbrev pub needs : {V : Type 0} → Bool → ℕ → Result V ℕ → Result V ℕ
needs test k rest = cond test rest (Err k)

-- the number by which a call answers: 0 where it is accepted, else that of its refusal
abbrev pub answer_number : {T : Type 0} → Result T Refusal → ℕ
answer_number (Ok x) = 0
answer_number (Err e) = refusal_number e

-- the same of what a definition says that a call tells
abbrev pub told_number : {V : Type 0} → Result V ℕ → ℕ
told_number (Ok x) = 0
told_number (Err k) = k
