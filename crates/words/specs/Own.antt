-- The own words of a sealer over a hashed list. Assumes nothing.
use Rattle.std.specs.Prelude.{ℕ, zero, suc, ◌+◌, ◌-◌, ◌*◌, ◌/◌, ◌%◌, Bool, true, cond, ◌&&◌, List}
use Rattle.std.specs.List.{between}
use Rattle.words.specs.Checks.{ListView, hashed_answers, in_range}
use Rattle.words.specs.Words.{zero_word}

-- the k-th own word, from 0: it is the word for phase k / 3 + 1 and value k % 3
abbrev pub own_word : List ℕ → ℕ → List ℕ
own_word own k = between (32 * k) (32 * k + 32) own

-- the first k own words of cabin i each pass the list
unfoldable pub own_pass : ListView → ℕ → List ℕ → ℕ → Bool
own_pass l i own zero = true
own_pass l i own (suc k) = own_pass l i own k && hashed_answers l i (k / 3 + 1) (k % 3) (own_word own k)

-- the own word for a phase and a value, or zeros where there is none
abbrev pub own_or_zeros : ℕ → List ℕ → ℕ → ℕ → List ℕ
own_or_zeros last own φ v = cond (in_range last φ v) (own_word own (3 * (φ - 1) + v)) zero_word
