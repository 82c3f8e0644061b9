-- What a step leaves of the hall.
use Rattle.std.proofs.Common.{◌≡◌, ℕ, ◌<◌, ◌≤◌, List, [], map, length, get_or, set, Some, None, Err, Option, sym, ap, subst, arith}
use Rattle.script.specs.Answers.{Reply}
use Rattle.script.specs.Stage.{Turned}
use Rattle.script.proofs.Stages.{seat_at_found, seat_at_past, seat_at_put, stays, turned_at, turned_past}
use Rattle.rehearsal_next.specs.Seats.{MayAnnounce, SeatView, closed_seat, packet_or_none, seat_announces, seat_hears_latest, seat_view}
use Rattle.rehearsal_next.specs.Stage.{MayWrite, latest, seat_at, turn}
use Rattle.rehearsal_next.specs.declared.seat.Seat.{Seat}
use Rattle.rehearsal_next.specs.declared.step.Step.{Step}

-- bytes that ask for nothing
pub unasked : (step : Option Step) (i : ℕ) (p : List ℕ) (stage : List SeatView) → step ≡ None → Turned i (turn step i p stage) (Err 19) stage stage × MayWrite step i stage p
unasked None i p stage e = (stays (closed_seat []) i stage, tt)
unasked (Some x) i p stage e = absurd (grind arith)

-- hearing the latest packet of a cabin that has none
pub unheard : (o : Option (List ℕ)) (i : ℕ) (stage : List SeatView) → None ≡ o → Turned i (seat_hears_latest o (seat_at stage i)) (Err 19) stage stage
unheard None i stage e = stays (closed_seat []) i stage
unheard (Some p) i stage e = absurd (grind arith)

-- an announce of the seat x, which then is y: the packet is that of y
pub record AnnouncedAt (i : ℕ) (reply : Reply) (before after : List SeatView) : Type 0 where
  pub turned : Turned i (seat_announces i (latest after i) (seat_at before i)) reply before after
  pub lawful : MayAnnounce i (seat_at before i) (latest after i)

pub announced_at : (xs : List Seat) (j i : ℕ) (x y : Seat) (reply : Reply) → j ≡ i → j < length xs → x ≡ get_or xs j x → reply ≡ (seat_announces i (packet_or_none (seat_view y).packet) (seat_view x)).reply → seat_view y ≡ (seat_announces i (packet_or_none (seat_view y).packet) (seat_view x)).seat → MayAnnounce i (seat_view x) (packet_or_none (seat_view y).packet) → AnnouncedAt i reply (map seat_view xs) (map seat_view (set xs j y))
announced_at xs j i x y reply same within item said left lawful =
    let p = ap (λ (s : SeatView). packet_or_none s.packet) (seat_at_put seat_view (closed_seat []) xs j i y same within) in
    let found = seat_at_found seat_view (closed_seat []) xs j i x same within item in
    let turned = turned_at seat_view (closed_seat []) xs j i (seat_announces i (packet_or_none (seat_view y).packet)) x y reply same within item said left in
    record {
      turned = subst (λ (q : List ℕ). Turned i (seat_announces i q (seat_at (map seat_view xs) i)) reply (map seat_view xs) (map seat_view (set xs j y))) (sym p) turned;
      lawful = subst (λ (q : List ℕ). MayAnnounce i (seat_at (map seat_view xs) i) q) (sym p) (subst (λ (s : SeatView). MayAnnounce i s (packet_or_none (seat_view y).packet)) (sym found) lawful);
    }

pub announced_past : (xs : List Seat) (j i : ℕ) → j ≡ i → length xs ≤ j → AnnouncedAt i (Err 19) (map seat_view xs) (map seat_view xs)
announced_past xs j i same past =
    let none = seat_at_past seat_view (closed_seat []) xs j i same past in
    record {
      turned = turned_past seat_view (closed_seat []) xs j i (seat_announces i (latest (map seat_view xs) i)) same past;
      lawful = subst (λ (s : SeatView). MayAnnounce i s (latest (map seat_view xs) i)) (sym none) tt;
    }
