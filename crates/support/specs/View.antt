-- A support as a list of places. Assumes nothing.
use Rattle.std.specs.Prelude.{ℕ, cond, List, length, take, Some, None, Option, nat_lt, slice_index}
use Rattle.support.specs.declared.support.Support.{Support}

-- the places in use
abbrev pub support_places : Support → List ℕ
support_places r = take r.count r.places

-- entry a of a list, if it has so many
abbrev pub place_at : List ℕ → ℕ → Option ℕ
place_at ks a = cond (nat_lt a (length ks)) (Some (slice_index ks a)) None
