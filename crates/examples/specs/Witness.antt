-- That a hall can decide: the laws over runs speak of runs that there are. Assumes nothing.
use Rattle.std.specs.Prelude.{◌≡◌, ℕ, ◌-◌, ◌<◌, false, Some}
use Rattle.runs.specs.Laws.{Holds}
use Rattle.runs.specs.Runs.{Run}
use Rattle.runs.specs.Sessions.{Fair, Honest, Moment, Session}

-- Some run of four cabins, of which one may be faulty and cabin 3 is: the three honest cabins are opened with both courses,
-- and come to hold the decision v.
pub record Witness (v : ℕ) : Type 0 where
  pub session : Session
  pub cabins : session.settings.cabins ≡ 4
  pub faults : session.settings.faults ≡ 1
  pub fair : Fair session
  pub honest : (i : ℕ) → i < 3 → Honest session i
  pub faulty : session.honest 3 ≡ false
  pub moment : Moment
  pub run : Run session moment
  -- one of them would have had the other course
  pub other : moment.choice 0 ≡ Some (1 - v)
  pub same : moment.choice 1 ≡ Some v
  pub held : (i : ℕ) → i < 3 → Holds moment i v
