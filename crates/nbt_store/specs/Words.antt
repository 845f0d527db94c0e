-- What the words of a line spell: kinds of words, one after the other (our profile).
use Rattle.std.specs.Prelude.{◌≡◌, ℕ, List, [], ◌∷◌, codes}
use Rattle.nbt_name.specs.declared.addr.Kind.{Kind}
use Rattle.nbt_name.specs.declared.addr.Kind.TheVariants.{Unique, Group}
use Rattle.nbt_name.specs.declared.addr.Addr.{Addr}
use Rattle.nbt_text.specs.Address.{SpellsAddress}

-- no word is left
abbrev pub NoMore : List (List ℕ) → Unit {0} → Type 0
NoMore words _ = words ≡ []

-- the first word spells one value, and the others spell the others
pub record Then {A B : Type 0} (One : List ℕ → A → Type 0) (Others : List (List ℕ) → B → Type 0) (words : List (List ℕ)) (values : A × B) : Type 0 where
  pub word : List ℕ
  pub rest : List (List ℕ)
  pub words_are : words ≡ word ∷ rest
  pub one : One word values.0
  pub others : Others rest values.1

-- the values one by one
abbrev pub first : {A B : Type 0} → A × B → A
first values = values.0

abbrev pub second : {A B C : Type 0} → A × (B × C) → B
second values = values.1.0

abbrev pub third : {A B C D : Type 0} → A × (B × (C × D)) → C
third values = values.1.1.0

abbrev pub fourth : {A B C D E : Type 0} → A × (B × (C × (D × E))) → D
fourth values = values.1.1.1.0

-- a host's end at the port of the name service (RFC 1002 section 4.2.1), as 192.0.2.7:137
abbrev pub end_of : (ip : ℕ) → Addr
end_of ip = record { ip = ip; port = 137 }

abbrev pub SpellsHost : List ℕ → (ip : ℕ) → Type 0
SpellsHost word ip = SpellsAddress word (end_of ip)

abbrev pub fifth : {A B C D E F : Type 0} → A × (B × (C × (D × (E × F)))) → E
fifth values = values.1.1.1.1.0

abbrev pub sixth : {A B C D E F G : Type 0} → A × (B × (C × (D × (E × (F × G))))) → F
sixth values = values.1.1.1.1.1.0

-- room for the further addresses of a lease, which has none
abbrev pub none_further : List ℕ
none_further = codes "-"

abbrev pub SpellsNone : List ℕ → Unit {0} → Type 0
SpellsNone word _ = word ≡ none_further

abbrev pub kind_word : Kind → List ℕ
kind_word Unique = codes "unique"
kind_word Group = codes "group"

abbrev pub SpellsKind : List ℕ → Kind → Type 0
SpellsKind word kind = word ≡ kind_word kind
