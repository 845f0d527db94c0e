-- What the line of a change says (our profile).
use Rattle.std.specs.Prelude.{◌≡◌, ℕ, List, ◌∷◌, codes}
use Rattle.nbt_name.specs.declared.addr.Kind.{Kind}
use Rattle.nbt_lease.specs.declared.lease.Lease.{Lease}
use Rattle.nbt_text.specs.NameText.{SpellsName}
use Rattle.nbt_text.specs.Number.{SpellsNumber}
use Rattle.nbt_text.specs.Lines.{words as words_of}
use Rattle.nbt_store.specs.declared.change.Change.{Change}
use Rattle.nbt_store.specs.declared.change.Change.TheVariants as change
use Rattle.nbt_store.specs.declared.verb.Verb.{Verb}
use Rattle.nbt_store.specs.declared.verb.Verb.TheVariants.{Began, Moved, Released, Reached, Looked}
use Rattle.nbt_store.specs.declared.form.Form.{Form}
use Rattle.nbt_store.specs.declared.form.Form.TheVariants.{Two, Three}
use Rattle.nbt_store.specs.Checksum.{checksum, sealed}
use Rattle.nbt_store.specs.Forms.{chained}
use Rattle.nbt_store.specs.Words.{NoMore, Then, first, second, third, fourth, fifth, sixth, SpellsHost, SpellsKind, SpellsNone}

-- what a line begins with
abbrev pub verb_word : Verb → List ℕ
verb_word Began = codes "began"
verb_word Moved = codes "moved"
verb_word Released = codes "released"
verb_word Reached = codes "reached"
verb_word Looked = codes "looked"

-- The words spell values, of which a change is made.
pub record Makes {A : Type 0} (Spell : List (List ℕ) → A → Type 0) (make : A → Change) (words : List (List ℕ)) (c : Change) : Type 0 where
  pub values : A
  pub spelled : Spell words values
  pub change_is : c ≡ make values

abbrev pub lease_of : (addr : ℕ) → Kind → (end : ℕ) → Lease
lease_of addr kind end = record { addr = addr; kind = kind; end = end }

-- What the words after a verb say: `began NAME HOST FURTHER KIND END TIME`, `moved NAME HOST END TIME`, `released NAME HOST TIME`,
-- `reached TIME`, `looked DAY TIME`, with times in milliseconds. In the older form three of them stand, without FURTHER and TIME.
abbrev pub SaysOf : Form → Verb → List (List ℕ) → Change → Type 0
SaysOf Three Began = Makes (Then SpellsName (Then SpellsHost (Then SpellsNone (Then SpellsKind (Then SpellsNumber (Then SpellsNumber NoMore)))))) (λ v. change.Began (first v) (lease_of (second v) (fourth v) (fifth v)) (sixth v))
SaysOf Three Moved = Makes (Then SpellsName (Then SpellsHost (Then SpellsNumber (Then SpellsNumber NoMore)))) (λ v. change.Moved (first v) (second v) (third v) (fourth v))
SaysOf Three Released = Makes (Then SpellsName (Then SpellsHost (Then SpellsNumber NoMore))) (λ v. change.Released (first v) (second v) (third v))
SaysOf Three Reached = Makes (Then SpellsNumber NoMore) (λ v. change.Reached (first v))
SaysOf Three Looked = Makes (Then SpellsNumber (Then SpellsNumber NoMore)) (λ v. change.Looked (first v) (second v))
SaysOf Two Began = Makes (Then SpellsName (Then SpellsHost (Then SpellsKind (Then SpellsNumber NoMore)))) (λ v. change.Began (first v) (lease_of (second v) (third v) (fourth v)) 0)
SaysOf Two Moved = Makes (Then SpellsName (Then SpellsHost (Then SpellsNumber NoMore))) (λ v. change.Moved (first v) (second v) (third v) 0)
SaysOf Two Released = Makes (Then SpellsName (Then SpellsHost NoMore)) (λ v. change.Released (first v) (second v) 0)
SaysOf Two Reached = λ words c. ⊥
SaysOf Two Looked = λ words c. ⊥

-- What the words of a line say.
pub data Says (form : Form) : List (List ℕ) → Change → Type 0 where
  says : (verb : Verb) (rest : List (List ℕ)) (c : Change) → SaysOf form verb rest c → Says form (verb_word verb ∷ rest) c

-- The line of a change behind one with this checksum: its words, closed by theirs.
pub record IsRecord (form : Form) (sum : ℕ) (line : List ℕ) (c : Change) (next : ℕ) : Type 0 where
  pub body : List ℕ
  pub line_is : line ≡ sealed (chained form sum) body
  pub words_say : Says form (words_of body) c
  pub next_is : next ≡ checksum (chained form sum) body
