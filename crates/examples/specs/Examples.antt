-- Examples of the rules, over the definitions that the calls meet. Assumes nothing.
use Rattle.std.specs.Prelude.{◌≡◌, ℕ, List, [], ◌∷◌, ◌++◌, replicate, Some, None, Ok, Err}
use Rattle.settings.specs.Bounds.{quorum_of, weak_quorum_of}
use Rattle.settings.specs.Making.{settings_answer}
use Rattle.settings.specs.declared.status.Status.TheVariants.{Undecided, Decided}
use Rattle.coins.specs.Register.{next_register, register_bits}
use Rattle.packets.specs.Packets.{records_answer}
use Rattle.packets.specs.Records.{fields_answer}
use Rattle.examples.specs.Stage.{after, all_said, said, says, small_hall, standing}

-- the quorum and the weak quorum of n cabins of which f may be faulty
abbrev pub quorums : ℕ → ℕ → ℕ × ℕ
quorums n f = (quorum_of n f, weak_quorum_of n f)

-- phase 1 with two cabins for each course
abbrev pub split : List ℕ
split = all_said 1 (0 ∷ 0 ∷ 1 ∷ 1 ∷ [])

pub record Examples : Type 0 where
  -- both quorums of 4, 7 and 16 cabins of which 1, 2 and 5 may be faulty
  pub four_cabins : quorums 4 1 ≡ (3, 2)
  pub seven_cabins : quorums 7 2 ≡ (5, 3)
  pub sixteen_cabins : quorums 16 5 ≡ (11, 6)
  -- six cabins cannot bear two faulty ones; a last phase ends a cycle, and is at most 24
  pub too_many_faults : (p : ℕ) → settings_answer 6 2 p ≡ Err 1
  pub broken_cycle : settings_answer 4 1 4 ≡ Err 2
  pub longest_session : settings_answer 4 1 24 ≡ Ok (4, 1, 24)
  -- a packet has whole records, 36 at most
  pub cut_packet : records_answer (replicate 39 0) ≡ Err 10
  pub long_packet : records_answer (replicate 1480 0) ≡ Err 10
  pub full_packet : records_answer (replicate 1440 0) ≡ Ok 36
  -- no preference is lawful in DECIDE, and not in LOCK
  pub no_preference : fields_answer small_hall 7 (said 3 0 2) ≡ Ok (says 3 0 2)
  pub must_prefer : fields_answer small_hall 7 (said 2 0 2) ≡ Err 11
  -- phase 1, 0 1 1: the majority
  pub majority : standing (after (all_said 1 (0 ∷ 1 ∷ 1 ∷ []) ∷ [])) ≡ (2, 1, Undecided, None)
  -- phase 1, cabin 0 says 0 and cabin 2 says 1 and 0: two cabins are no quorum; then cabin 1 says 1, and a tie is 0
  pub no_quorum : standing (after ((said 1 0 0 ++ (said 1 2 1 ++ said 1 2 0)) ∷ [])) ≡ (1, 1, Undecided, None)
  pub tie : standing (after ((said 1 0 0 ++ (said 1 2 1 ++ said 1 2 0)) ∷ said 1 1 1 ∷ [])) ≡ (2, 0, Undecided, None)
  -- phase 2: 0 0 1 leave no preference, 0 0 0 leave 0
  pub locks_none : standing (after (split ∷ all_said 2 (0 ∷ 0 ∷ 1 ∷ []) ∷ [])) ≡ (3, 2, Undecided, None)
  pub locks_zero : standing (after (split ∷ all_said 2 (0 ∷ 0 ∷ 0 ∷ []) ∷ [])) ≡ (3, 0, Undecided, None)
  -- phase 3: 0 0 0 decide 0; 0 2 2 leave 0, undecided; 2 2 2 leave what the coin tosses, and take one bit of it
  pub decides : standing (after (split ∷ all_said 2 (0 ∷ 0 ∷ 0 ∷ []) ∷ all_said 3 (0 ∷ 0 ∷ 0 ∷ []) ∷ [])) ≡ (4, 0, Decided, Some 0)
  pub takes_course : standing (after (split ∷ all_said 2 (0 ∷ 0 ∷ 0 ∷ []) ∷ all_said 3 (0 ∷ 2 ∷ 2 ∷ []) ∷ [])) ≡ (4, 0, Undecided, None)
  pub tosses : standing (after (split ∷ all_said 2 (0 ∷ 0 ∷ 1 ∷ []) ∷ all_said 3 (2 ∷ 2 ∷ 2 ∷ []) ∷ [])) ≡ (4, 1, Undecided, None)
  pub takes_bit : (after (split ∷ all_said 2 (0 ∷ 0 ∷ 1 ∷ []) ∷ all_said 3 (2 ∷ 2 ∷ 2 ∷ []) ∷ [])).bits ≡ 0 ∷ []
  -- register 1 tosses 1 0 0 0, and is 1000h then
  pub register_tosses : register_bits 1 4 ≡ 1 ∷ 0 ∷ 0 ∷ 0 ∷ []
  pub register_after : next_register (next_register (next_register (next_register 1))) ≡ 4096
