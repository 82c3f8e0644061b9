-- That the laws can be met. Assumes nothing.
use Rattle.std.specs.Prelude.{◌≡◌, ℕ, false, Some}
use Rattle.agreement.specs.TwoWay.{two_way_hall}
use Rattle.agreement.specs.History.{History, Laws}
use Rattle.agreement.specs.Status.{Standing, StatusLaws}

-- Some history of four cabins, one of them faulty, keeps all laws, and cabin 0 holds the decision v.
pub record CanDecide (v : ℕ) : Type 0 where
  pub history : History
  pub laws : Laws (two_way_hall 4 1) history
  pub status : StatusLaws (two_way_hall 4 1) history
  pub standing : Standing (two_way_hall 4 1) history
  pub faulty : history.honest 3 ≡ false
  pub held : history.decision 0 ≡ Some v
