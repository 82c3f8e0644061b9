-- The numbers of the format: sizes in bytes, and where each field of a record begins. Assumes nothing.
use Rattle.std.specs.Prelude.{ℕ, ◌*◌}

abbrev pub record_size : ℕ
record_size = 40

abbrev pub word_size : ℕ
word_size = 32

-- a packet has at most so many records
abbrev pub most_records : ℕ
most_records = 36

abbrev pub longest_packet : ℕ
longest_packet = most_records * record_size

abbrev pub cabin_place : ℕ
cabin_place = 0

abbrev pub value_place : ℕ
value_place = 1

abbrev pub status_place : ℕ
status_place = 2

-- a byte that is always 0
abbrev pub zero_place : ℕ
zero_place = 3

abbrev pub branch_place : ℕ
branch_place = 4

abbrev pub phase_place : ℕ
phase_place = 6

abbrev pub word_place : ℕ
word_place = 8
