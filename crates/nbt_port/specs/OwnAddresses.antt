-- The machine's own addresses, as Linux lists them in /proc/net/fib_trie (our profile).
use Rattle.std.specs.Prelude.{◌≡◌, ℕ, List, [], ◌∷◌, ◌++◌, Option, None, Some, codes}
use Rattle.std.specs.Option.{option_to_list}
use Rattle.std.specs.Net.Addr.{ipv4_bits}
use Rattle.std.specs.Net.Grammar.{IsIpv4Text}
use Rattle.std.specs.declared.net.ipv4_addr.Ipv4Addr.{Ipv4Addr}
use Rattle.nbt_text.specs.Lines.{lines, words}
use Rattle.nbt_port.specs.declared.machine_addresses.Line.{Line}
use Rattle.nbt_port.specs.declared.machine_addresses.Line.TheVariants.{Leaf, Own, Other}

-- a leaf of the list, which has one address
abbrev pub IsLeaf : (words : List (List ℕ)) → (ip : ℕ) → Type 0
IsLeaf words ip = (text : List ℕ) × (addr : Ipv4Addr) × (words ≡ codes "|--" ∷ text ∷ []) × IsIpv4Text text addr × (ip ≡ ipv4_bits addr)

-- the address of the leaf above is the machine's own
abbrev pub IsOwn : (words : List (List ℕ)) → Type 0
IsOwn words = words ≡ codes "/32" ∷ codes "host" ∷ codes "LOCAL" ∷ []

abbrev pub Says : (words : List (List ℕ)) → Line → Type 0
Says words (Leaf ip) = IsLeaf words ip
Says words Own = IsOwn words
Says words Other = ((ip : ℕ) → ¬ IsLeaf words ip) × (¬ IsOwn words)

-- One line below a leaf, if there is one: it begins another leaf, or adds the address of the one above.
abbrev pub Steps : Line → (leaf next : Option ℕ) → (added : List ℕ) → Type 0
Steps (Leaf ip) leaf next added = (next ≡ Some ip) × (added ≡ [])
Steps Own leaf next added = (next ≡ leaf) × (added ≡ option_to_list leaf)
Steps Other leaf next added = (next ≡ leaf) × (added ≡ [])

-- the addresses that the lines below a leaf add
pub data Adds : (leaf : Option ℕ) → (lines : List (List ℕ)) → (own : List ℕ) → Type 0 where
  no_line : (leaf : Option ℕ) → Adds leaf [] []
  one_line : (leaf next : Option ℕ) (line : List ℕ) (said : Line) (lines : List (List ℕ)) (added own : List ℕ) → Says (words line) said → Steps said leaf next added
      → Adds next lines own → Adds leaf (line ∷ lines) (added ++ own)

-- the addresses that the list has, in the order of its lines
abbrev pub AreOwn : (list own : List ℕ) → Type 0
AreOwn list own = Adds None (lines list) own
