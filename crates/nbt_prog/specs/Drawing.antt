-- What `sim --draw` prints (our profile): a picture, which no definition says.
use Rattle.std.specs.Prelude.{◌≡◌, ℕ, Bool, List, Option, is_none}
use Rattle.nbt_sim.specs.Drawing.{EndsAt}
use Rattle.nbt_text.specs.Lines.{lines}

-- the picture ends at the first line of the script that can't be read, if there is one
pub record Draws (script : List ℕ) (done : Bool) : Type 0 where
  pub stopped : Option ℕ
  pub ends : EndsAt (lines script) stopped
  pub done_is : done ≡ is_none stopped
