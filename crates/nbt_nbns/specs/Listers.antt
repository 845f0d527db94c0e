-- A list of a server's rows, kept in a place, and made by parts (our profile).
use Rattle.std.specs.Prelude.{◌≡◌, ◌≢◌, ℕ, ◌+◌, ◌≤◌, ⊤, List, Option, Some, None}
use Rattle.nbt_lease.specs.Config.{milliseconds}
use Rattle.nbt_lease.specs.Lease.{Rows}
use Rattle.nbt_log.specs.Drafts.{DraftValue, IsDraftText, IsWhole, ListingValue, new_draft, one_part_more}
use Rattle.nbt_nbns.specs.declared.keeper.Kept.{Kept}
use Rattle.nbt_nbns.specs.declared.keeper.Kept.TheVariants as k

-- when it looked last, the list that is being made, which text the place has, if it was given one, and the place
pub record ListerValue (L : Type 0) : Type 0 where
  pub looked : Option ℕ
  pub draft : Option DraftValue
  pub text : Option (List ℕ)
  pub place : L

-- nothing was looked at yet
abbrev pub new_lister : {L : Type 0} → L → ListerValue L
new_lister place = record { looked = None; draft = None; text = None; place = place }

-- how long a look waits after the last one, in milliseconds: a second before a list is begun, and less before one is gone on with
abbrev pub pause : Option DraftValue → ℕ
pause None = milliseconds 1
pause (Some draft) = 5

abbrev pub IsLookDue : (looked : Option ℕ) → Option DraftValue → (now : ℕ) → Type 0
IsLookDue None draft now = ⊤
IsLookDue (Some looked) draft now = looked + pause draft ≤ now

-- one part more of the list that is being made, whatever is to be listed now, or else the first of a new one
abbrev pub next_draft : Option DraftValue → ListingValue → Rows → (now : ℕ) → DraftValue
next_draft None listing rows now = one_part_more (new_draft listing now rows)
next_draft (Some draft) listing rows now = one_part_more draft

-- A look, where a listing of these rows is to be kept: not before it is due. One part more of a list is made. Once that is whole, the place is given its
-- text where it has another one, and may refuse it. Where memory was refused, the place and its text stay; that it was, no contract can say. A list that
-- failed is lost.
pub data ListsOn {L : Type 0} (puts refuses : L → List ℕ → L → Type 0) (listing : ListingValue) (rows : Rows) (now : ℕ) (old : ListerValue L) : Kept → ListerValue L → Type 0 where
  early : ¬ IsLookDue old.looked old.draft now → ListsOn puts refuses listing rows now old k.Early old
  unfinished : IsLookDue old.looked old.draft now → ¬ IsWhole (next_draft old.draft listing rows now)
      → ListsOn puts refuses listing rows now old k.Unfinished (record old { looked = Some now; draft = Some (next_draft old.draft listing rows now) })
  same : (text : List ℕ) → IsLookDue old.looked old.draft now → IsWhole (next_draft old.draft listing rows now) → IsDraftText (next_draft old.draft listing rows now) text → old.text ≡ Some text
      → ListsOn puts refuses listing rows now old k.Same (record old { looked = Some now; draft = None })
  written : (text : List ℕ) (place : L) → IsLookDue old.looked old.draft now → IsWhole (next_draft old.draft listing rows now) → IsDraftText (next_draft old.draft listing rows now) text → old.text ≢ Some text
      → puts old.place text place → ListsOn puts refuses listing rows now old k.Written (record { looked = Some now; draft = None; text = Some text; place = place })
  no_memory : IsLookDue old.looked old.draft now → ListsOn puts refuses listing rows now old k.Failed (record old { looked = Some now; draft = None })
  refused : (text : List ℕ) (place : L) → IsLookDue old.looked old.draft now → IsWhole (next_draft old.draft listing rows now) → IsDraftText (next_draft old.draft listing rows now) text → old.text ≢ Some text
      → refuses old.place text place → ListsOn puts refuses listing rows now old k.Failed (record old { looked = Some now; draft = None; place = place })
