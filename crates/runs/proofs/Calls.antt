-- The laws at a call: every run goes on with what the call promises, and keeps the laws.
use Rattle.std.proofs.Common.{◌≡◌, ℕ, true, List, take, IfOk, Ok, Err, Result, sym, ap, ◌∙◌, subst}
use Rattle.settings.specs.Refusals.{refusal_number, told}
use Rattle.settings.specs.declared.refusal.Refusal.{Refusal}
use Rattle.settings.specs.declared.settings.Settings.{Settings}
use Rattle.coins.specs.Bits.{are_bits}
use Rattle.table.specs.declared.place.Place.{Place}
use Rattle.moves.specs.Announcing.{Announced, Sealing, announce_answer, announce_state}
use Rattle.moves.specs.Hearing.{Told, hear_answer, hear_state, hear_table}
use Rattle.moves.specs.Judging.{Check}
use Rattle.moves.specs.Opening.{open_answer, open_table}
use Rattle.moves.specs.declared.state.State.{State}
use Rattle.runs.specs.Laws.{AnnounceKeeps, HearKeeps, OpenKeeps}
use Rattle.runs.specs.Runs.{Step, announce_refused, announces, hear_refused, hears, open_refused, opens}
use Rattle.runs.specs.Sessions.{after_announce, after_hear, after_open}
use Rattle.runs.proofs.Running.{run_keeps}

-- an open, by its answer and the table that it left
pub open_keeps : (s : Settings) (i b v : ℕ) (answer : Result State ℕ) (t t' : List Place) → answer ≡ open_answer s i b v t → t' ≡ open_table answer t → OpenKeeps s i b v answer t'
open_keeps s i b v (Ok c) t t' told_is table_is w fair settings branch hi x run closed =
    let answer : open_answer w.settings i w.branch v t ≡ Ok c = rw (settings, branch) (sym told_is) in
    let step = subst (λ (u : List Place). Step w x (after_open x i v c u)) (sym table_is) (opens x i v t c hi closed answer) in
    run_keeps w fair x _ run step
open_keeps s i b v (Err k) t t' told_is table_is w fair settings branch hi x run closed = run_keeps w fair x x run (open_refused x s i b v k t (sym told_is))

-- an announce, by its answer, the cabin and the packet that it left
pub announce_keeps : (c c' : State) (t : List Place) (sealer : Sealing) (buffer after : List ℕ) (r : Result ℕ Refusal)
    → told (λ (size : ℕ). tt) r ≡ announce_answer c t sealer buffer
    → c' ≡ announce_state (announce_answer c t sealer buffer) c
    → IfOk r (λ size. Announced c t sealer buffer after size)
    → AnnounceKeeps c c' t (told (λ (size : ℕ). size) r) after
announce_keeps c c' t sealer buffer after (Ok size) told_is state_is wrote w fair hi x run there =
    let left : announce_state (Ok tt) c ≡ c' = ap (λ (a : Result (Unit {0}) ℕ). announce_state a c) told_is ∙ sym state_is in
    let step = announces x c.number size (record { state = c; table = t }) sealer buffer after hi there (sym told_is) wrote in
    run_keeps w fair x _ run (subst (λ (d : State). Step w x (after_announce x c.number d t (take size after))) left step)
announce_keeps c c' t sealer buffer after (Err e) told_is state_is wrote w fair hi x run there =
    run_keeps w fair x x run (announce_refused x c t sealer buffer (refusal_number e) (sym told_is))

-- a hear, by its answer, the cabin and the table that it left
pub hear_keeps : (check : Check) (c c' : State) (t t' : List Place) (p bits : List ℕ) (answer : Result Told ℕ)
    → answer ≡ hear_answer check c t p bits
    → c' ≡ hear_state check c t p bits answer
    → t' ≡ hear_table check c t p answer
    → are_bits bits ≡ true
    → HearKeeps check c c' t t' p answer
hear_keeps check c c' t t' p bits (Ok x₀) told_is state_is table_is each w fair hi x run there authentic =
    let step = hears x c.number (record { state = c; table = t }) p bits check x₀ hi there (sym told_is) each authentic in
    let left = subst (λ (d : State). Step w x (after_hear x c.number c d (hear_table check c t p (Ok x₀)))) (sym state_is) step in
    run_keeps w fair x _ run (subst (λ (u : List Place). Step w x (after_hear x c.number c c' u)) (sym table_is) left)
hear_keeps check c c' t t' p bits (Err k) told_is state_is table_is each w fair hi x run there authentic =
    run_keeps w fair x x run (hear_refused x c t p bits check k (sym told_is))
