-- What `show` prints (our profile).
use Rattle.std.specs.Prelude.{◌≡◌, ◌↔◌, ℕ, Bool, List, Option, ◌++◌, Ok, codes}
use Rattle.hex.specs.Hex.{decode_of}
use Rattle.nbt_show.specs.DgramText.{PrintsDgram}
use Rattle.nbt_show.specs.PacketText.{PrintsOctets}
use Rattle.nbt_show.specs.SessionText.{PrintsSession}
use Rattle.nbt_prog.specs.Texts.{StandsFor}
use Rattle.nbt_prog.specs.declared.offline.showing.Service.{Service}
use Rattle.nbt_prog.specs.declared.offline.showing.Service.TheVariants.{Name, Dgram, Session}

-- the service that a KIND names, of which there are three
pub record IsService (kind : List ℕ) (service : Service) : Type 0 where
  pub dgram : (service ≡ Dgram) ↔ (kind ≡ codes "dgram")
  pub session : (service ≡ Session) ↔ (kind ≡ codes "session")

-- what is printed of octets of a service, and whether they have no fault
abbrev pub Shows : Service → List ℕ → Bool → List ℕ → Type 0
Shows Name octets faultless text = PrintsOctets octets faultless text
Shows Dgram octets faultless text = PrintsDgram octets faultless text
Shows Session octets faultless text = PrintsSession octets faultless text

-- what is printed of the octets that HEX spells
pub record ShowsHex (kind hex : List ℕ) (faultless : Bool) (text : List ℕ) : Type 0 where
  pub service : Service
  pub octets : List ℕ
  pub kind_is : IsService kind service
  pub hex_is : decode_of hex ≡ Ok octets
  pub shows : Shows service octets faultless text

-- what is printed with `--explain`: what is without it, and then what explains the octets, which no definition says
pub record ShowsAndExplains (service : Service) (octets : List ℕ) (faultless : Bool) (text : List ℕ) : Type 0 where
  pub shown : List ℕ
  pub explained : List ℕ
  pub shows : Shows service octets faultless shown
  pub text_is : text ≡ shown ++ explained

-- the same of the octets that HEX stands for
pub record ExplainsHex (kind hex : List ℕ) (known : Option (List ℕ)) (faultless : Bool) (text : List ℕ) : Type 0 where
  pub service : Service
  pub octets : List ℕ
  pub kind_is : IsService kind service
  pub hex_is : StandsFor hex known octets
  pub shows : ShowsAndExplains service octets faultless text
