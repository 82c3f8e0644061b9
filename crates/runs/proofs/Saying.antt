-- The last record of a packet that an announce wrote is the cabin's own.
use Rattle.std.proofs.Common.{◌≡◌, ℕ, ◌-◌, ◌<◌, ◌≤◌, List, length, take, sym, ap, ◌∙◌, inl, inr, arith}
use Rattle.std.proofs.lemmas.List.{length-take-le}
use Rattle.std.proofs.lemmas.Bool.{cases_Bool, le-ltb, true≢false}
use Rattle.packets.proofs.Places.{record_of_take}
use Rattle.packets.specs.Packets.{places_in, record_at}
use Rattle.packets.specs.Records.{fields_in, record_bytes}
use Rattle.packets.specs.declared.record.Fields.{Fields}
use Rattle.table.specs.declared.place.Place.{Place}
use Rattle.moves.specs.Announcing.{Announced, Content, Sealing, own_content, said_at, with_support}
use Rattle.moves.specs.declared.state.State.{State}
use Rattle.runs.specs.Sessions.{last_said}

-- the phase and the value of a record's bytes
phase_back : (f : Fields) (w : List ℕ) → f.phase < 65536 → (fields_in (record_bytes f w)).phase ≡ f.phase
phase_back f w within = omega arith

-- the last record has the cabin's phase and value
pub record Says (c : State) (f : Fields) : Type 0 where
  pub phase : f.phase ≡ c.phase
  pub value : f.value ≡ c.value

-- behind the support stands the cabin's own record
own_said : (c : State) (t : List Place) (sealer : Sealing) (ks : List ℕ) → said_at c t sealer ks (length ks) ≡ own_content c sealer
own_said c t sealer ks = rw (le-ltb (length ks) (length ks) (omega arith))

-- the support has at most 35 places
most_places : (c : State) (t : List Place) (sealer : Sealing) (buffer after : List ℕ) (size : ℕ) (wrote : Announced c t sealer buffer after size) → length wrote.places ≤ 35
most_places c t sealer buffer after size wrote =
    elim (cases_Bool (with_support c)) [
      | inl on ↦ (wrote.supports on).few
      | inr off ↦ omega (arith, ap length (wrote.alone (λ on. true≢false (sym on ∙ off))))
    ]

-- the packet has one record for each place of the support and one more, and the last is the cabin's own
pub last_says : (c : State) (t : List Place) (sealer : Sealing) (buffer after : List ℕ) (size : ℕ) → c.phase < 65536 → 1440 ≤ length buffer → Announced c t sealer buffer after size → Says c (last_said (take size after))
last_says c t sealer buffer after size low room wrote =
    let k : ℕ = length wrote.places in
    let p : List ℕ = take size after in
    let few : k ≤ 35 = most_places c t sealer buffer after size wrote in
    let whole : length p ≡ size = length-take-le size after (omega (arith, wrote.long, wrote.size_is)) in
    let last : places_in p - 1 ≡ k = omega (arith, wrote.size_is) in
    let own : record_at p k ≡ record_bytes (own_content c sealer).fields (own_content c sealer).word = record_of_take after k size (omega (arith, wrote.size_is)) ∙ (wrote.bytes k (omega arith) ∙ ap (λ (y : Content). record_bytes y.fields y.word) (own_said c t sealer wrote.places)) in
    let said : last_said p ≡ fields_in (record_bytes (own_content c sealer).fields (own_content c sealer).word) = ap (λ (j : ℕ). fields_in (record_at p j)) last ∙ ap fields_in own in
    record { phase = ap (λ (f : Fields). f.phase) said ∙ phase_back (own_content c sealer).fields (own_content c sealer).word low; value = ap (λ (f : Fields). f.value) said }
