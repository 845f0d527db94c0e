-- What the proofs of a node's datagrams share.
use Rattle.nbt_c.proofs.Common.{◌≡◌, ◌≤◌, ℕ, List, Option, Addr, MessageValue, last_moment, NodeValue, Told, Handles, Says, sent_back, octets_back, reported, Hears}
use Rattle.nbt_c.specs.Nodes as is

-- what was handled, what is reported and what is sent back may be given by equal ones
pub heard_as : (old : NodeValue) (now : ℕ) (from : Addr) (octets : List ℕ) (new : NodeValue) (message : Option MessageValue) (told : Told) (own : List ℕ) (heard : Told) (out : List ℕ)
    → now ≤ last_moment → old.last ≤ now → Says octets message → Handles old now from octets new told own
    → heard ≡ reported told (sent_back new now message told own) → out ≡ octets_back (sent_back new now message told own) → Hears old now from octets 0 new heard message out
heard_as old now from octets new message told own heard out most later says handles heard_is out_is = rw (heard_is, out_is) (is.Hears.hears new message told own most later says handles)
