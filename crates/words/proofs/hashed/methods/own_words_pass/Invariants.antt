use Rattle.std.proofs.Common.{◌≡◌, ◌+◌, ◌-◌, ◌*◌, ◌≤◌, true}
use Rattle.words.specs.Checks.{list_view}
use Rattle.words.specs.Own.{own_pass}
use Rattle.words.proofs.hashed.methods.own_words_pass.Given as goal

-- the own words of the phases before pass
abbrev pub invariant-loop-phase : goal.invariant-loop-phase
invariant-loop-phase l = (l.phase ≤ l.last + 1) × (own_pass (list_view l.entries.list) l.entries.cabin l.own (3 * (l.phase - 1)) ≡ true)

-- and so do those of the values before
abbrev pub invariant-loop-value : goal.invariant-loop-value
invariant-loop-value l = own_pass (list_view l.entries.list) l.entries.cabin l.own (3 * (l.phase - 1) + l.value) ≡ true
