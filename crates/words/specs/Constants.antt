-- The constants of SHA-256, by the rule that FIPS 180-4 gives for them in sections 4.2.2 and 5.3.3.
-- Assumes nothing.
use Rattle.std.specs.Prelude.{ℕ, zero, suc, ◌+◌, ◌-◌, ◌*◌, ◌%◌, ◌^◌, Bool, true, false, cond, ◌&&◌, List, [], ◌∷◌, map, take, nat_le, nat_lt, slice_index}

-- none of the n numbers from d on divides p
abbrev pub no_divisor : ℕ → ℕ → ℕ → Bool
no_divisor p d zero = true
no_divisor p d (suc n) = nat_lt 0 (p % d) && no_divisor p (suc d) n

-- p is a prime: no number from 2 to p - 1 divides it
abbrev pub is_prime : ℕ → Bool
is_prime p = no_divisor p 2 (p - 2)

-- ps, with p before them where the test holds
abbrev pub keep_if : Bool → ℕ → List ℕ → List ℕ
keep_if true p ps = p ∷ ps
keep_if false p ps = ps

-- the primes among the n numbers from p on
abbrev pub primes_from : ℕ → ℕ → List ℕ
primes_from p zero = []
primes_from p (suc n) = keep_if (is_prime p) p (primes_from (suc p) n)

-- the first sixty-four primes, which are those from 2 to 311
abbrev pub primes : List ℕ
primes = primes_from 2 310

-- the k-th root of x, rounded down: r and the n bits below it, each set where the k-th power stays at most x
abbrev pub root : ℕ → ℕ → ℕ → ℕ → ℕ
root k x zero r = r
root k x (suc n) r = root k x n (cond (nat_le ((r + 2 ^ n) ^ k) x) (r + 2 ^ n) r)

-- the first 32 bits of the fractional part of the k-th root of p, where that root is below 8
abbrev pub fraction : ℕ → ℕ → ℕ
fraction k p = root k (p * 2 ^ (32 * k)) 35 0 % 2 ^ 32

-- the constants K of the rounds: from the cube roots of the first sixty-four primes
unfoldable pub K_words : List ℕ
K_words = map (fraction 3) primes

-- the constant of round t
abbrev pub K : ℕ → ℕ
K t = slice_index K_words t

-- the initial hash value H(0): from the square roots of the first eight primes
unfoldable pub H⁰ : List ℕ
H⁰ = map (fraction 2) (take 8 primes)
