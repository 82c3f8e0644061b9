-- The bounds of settings, and the two quorums that follow from them. Assumes nothing.
use Rattle.std.specs.Prelude.{ℕ, ◌+◌, ◌*◌, ◌/◌, ◌%◌, Bool, ◌&&◌, ◌==◌, nat_le, nat_lt}

-- n cabins of which f may be faulty: n from 4 to 16, and 3f below n
abbrev pub hall_lawful : ℕ → ℕ → Bool
hall_lawful n f = nat_le 4 n && (nat_le n 16 && nat_lt (3 * f) n)

-- a last phase: a multiple of three from 3 to 24
abbrev pub phases_lawful : ℕ → Bool
phases_lawful p = nat_le 3 p && (nat_le p 24 && p % 3 == 0)

-- q, the quorum: more than half of n + f
abbrev pub quorum_of : ℕ → ℕ → ℕ
quorum_of n f = (n + f) / 2 + 1

-- h, the weak quorum: more than half of that
abbrev pub weak_quorum_of : ℕ → ℕ → ℕ
weak_quorum_of n f = (n + f) / 4 + 1
