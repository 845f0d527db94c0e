-- The file of networks whose machines may register: a network a line (our profile).
use Rattle.std.specs.Prelude.{◌≡◌, ◌≢◌, ℕ, ◌+◌, ◌≤◌, List, [], ◌∷◌, ◌++◌, length}
use Rattle.nbt_text.specs.Lines.{lines, fields, HasNoField}
use Rattle.nbt_front.specs.Files.{said}
use Rattle.nbt_front.specs.Networks.{NetworkValue, SpellsNetwork}
use Rattle.nbt_front.specs.Numbers.{networks_most}
use Rattle.nbt_front.specs.declared.network_file.NetworkFault.{NetworkFault}
use Rattle.nbt_front.specs.declared.network_file.NetworkFault.TheVariants as f
use Rattle.nbt_front.specs.declared.network_file.NetworksFault.{NetworksFault}
use Rattle.nbt_front.specs.declared.network_file.NetworksFault.TheVariants.{Line, Memory, NoNetwork}

-- The words of a line spell a network where there is one of them, and that does; else the first thing that is wrong with them.
pub data SpellsOne : (words : List (List ℕ)) → NetworkValue → Type 0 where
  spells_one : (word : List ℕ) (network : NetworkValue) → SpellsNetwork word network → SpellsOne (word ∷ []) network

pub data MisspellsOne : (words : List (List ℕ)) → NetworkFault → Type 0 where
  not_one : (words : List (List ℕ)) → length words ≢ 1 → MisspellsOne words f.Words
  no_network : (word : List ℕ) → ((network : NetworkValue) → ¬ SpellsNetwork word network) → MisspellsOne (word ∷ []) f.Network

-- A line names the network that its words spell; a remark, and a line of spaces and tabs alone, names none.
pub data Names (before : List NetworkValue) (text : List ℕ) : List NetworkValue → Type 0 where
  passed_over : HasNoField (said text) → Names before text before
  named : (network : NetworkValue) → ¬ HasNoField (said text) → SpellsOne (fields (said text)) network → Names before text (before ++ network ∷ [])

pub data NamesNone (before : List NetworkValue) (text : List ℕ) : NetworkFault → Type 0 where
  full : ¬ HasNoField (said text) → networks_most ≤ length before → NamesNone before text f.Many
  misspelled : (fault : NetworkFault) → ¬ HasNoField (said text) → MisspellsOne (fields (said text)) fault → NamesNone before text fault

-- the lines in their order
pub data ReadsNetworks : (before : List NetworkValue) → (texts : List (List ℕ)) → List NetworkValue → Type 0 where
  no_line : (networks : List NetworkValue) → ReadsNetworks networks [] networks
  one_line : (old mid new : List NetworkValue) (text : List ℕ) (texts : List (List ℕ)) → Names old text mid → ReadsNetworks mid texts new → ReadsNetworks old (text ∷ texts) new

-- the first line that can't be taken, counted from 1
pub data FailsNetworks : (before : List NetworkValue) → (texts : List (List ℕ)) → (number : ℕ) → NetworkFault → Type 0 where
  at_this : (old : List NetworkValue) (text : List ℕ) (texts : List (List ℕ)) (fault : NetworkFault) → NamesNone old text fault → FailsNetworks old (text ∷ texts) 1 fault
  behind : (old mid : List NetworkValue) (text : List ℕ) (texts : List (List ℕ)) (number : ℕ) (fault : NetworkFault) → Names old text mid → FailsNetworks mid texts number fault
      → FailsNetworks old (text ∷ texts) (number + 1) fault

-- A file names one network at least: with none everybody could register.
abbrev pub AreNetworks : (text : List ℕ) → List NetworkValue → Type 0
AreNetworks text networks = ReadsNetworks [] (lines text) networks × (networks ≢ [])

abbrev pub NetworksFail : (text : List ℕ) → NetworksFault → Type 0
NetworksFail text (Line number fault) = FailsNetworks [] (lines text) number fault
NetworksFail text NoNetwork = ReadsNetworks [] (lines text) []
NetworksFail text Memory = Unit {0}
