-- What a step of eight bytes asks for. Assumes nothing.
use Rattle.std.specs.Prelude.{ℕ, Bool, cond, ◌&&◌, List, Some, None, Option}
use Rattle.script.specs.Steps.{byte, kind, opens, unused}
use Rattle.rehearsal_next.specs.declared.claim.Claim.{Claim}
use Rattle.rehearsal_next.specs.declared.step.Step.{Step}
use Rattle.rehearsal_next.specs.declared.step.Step.TheVariants.{Open, Announce, Hear, HearRecord}

-- kind 2: announce
abbrev pub announces : List ℕ → Bool
announces bs = kind bs 2 && (unused bs 2 && (unused bs 3 && (unused bs 4 && (unused bs 5 && (unused bs 6 && unused bs 7)))))

-- kind 3: hear what a cabin announced last; byte 2 names it
abbrev pub hears : List ℕ → Bool
hears bs = kind bs 3 && (unused bs 3 && (unused bs 4 && (unused bs 5 && (unused bs 6 && unused bs 7))))

-- kind 4: hear a made-up record; bytes 2 to 5 are its cabin, phase, value and status
abbrev pub hears_record : List ℕ → Bool
hears_record bs = kind bs 4 && (unused bs 6 && unused bs 7)

abbrev pub claim_of : List ℕ → Claim
claim_of bs = record { cabin = byte bs 2; phase = byte bs 3; value = byte bs 4; status = byte bs 5 }

-- the step that eight bytes say, or none
abbrev pub step_of : List ℕ → Option Step
step_of bs =
    cond (opens bs) (Some (Open (byte bs 4)))
    (cond (announces bs) (Some Announce)
    (cond (hears bs) (Some (Hear (byte bs 2)))
    (cond (hears_record bs) (Some (HearRecord (claim_of bs))) None)))
