-- Each example computes.
use Rattle.std.proofs.Common.{refl}
use Rattle.agreement.specs.Counting.{count, some}
use Rattle.agreement.specs.Rules.{tally, turnout}
use Rattle.agreement.specs.TwoWay.{two_way}
use Rattle.coins.specs.Register.{register_bits}
use Rattle.table.specs.Places.{records_at}
use Rattle.moves.specs.Hearing.{heard_to}
use Rattle.examples.specs.Examples.{Examples}

-- by the definitions, step by step
pub examples : Examples
unfolding register_bits heard_to records_at tally turnout count some two_way
examples = record {
  four_cabins = refl;
  seven_cabins = refl;
  sixteen_cabins = refl;
  too_many_faults = λ p. refl;
  broken_cycle = refl;
  longest_session = refl;
  cut_packet = refl;
  long_packet = refl;
  full_packet = refl;
  no_preference = refl;
  must_prefer = refl;
  majority = refl;
  no_quorum = refl;
  tie = refl;
  locks_none = refl;
  locks_zero = refl;
  decides = refl;
  takes_course = refl;
  tosses = refl;
  takes_bit = refl;
  register_tosses = refl;
  register_after = refl;
}
