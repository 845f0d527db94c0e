-- The lines of a host that replied to a scan (our profile).
use Rattle.std.specs.Prelude.{◌≡◌, ℕ, List, [], ◌++◌, Option, Some, None, codes}
use Rattle.nbt_text.specs.Address.{dotted}
use Rattle.nbt_text.specs.HostNames.{IsHostName, host_line}
use Rattle.nbt_text.specs.Lines.{newline}
use Rattle.nbt_show.specs.NodeStatus.{IsNameLine}
use Rattle.nbt_show.specs.Rows.{PrintsRows}
use Rattle.nbt_scan.specs.declared.form.Form.{Form}
use Rattle.nbt_scan.specs.declared.form.Form.TheVariants.{Plain, Long, Hosts, Json}
use Rattle.nbt_scan.specs.declared.host.Host.{Host}
use Rattle.nbt_scan.specs.Cells.{PrintsName, server_word, unit_word, column}
use Rattle.nbt_scan.specs.Hosts.{IsHost}
use Rattle.nbt_scan.specs.Json.{IsObject}

-- ---- a line of columns

-- as `192.0.2.7        FILER            OFFICE           -                server  00:50:56:c0:00:08`
pub record IsColumns (ip : ℕ) (host : Host) (line : List ℕ) : Type 0 where
  pub computer : List ℕ
  pub group : List ℕ
  pub user : List ℕ
  pub computer_is : PrintsName host.computer computer
  pub group_is : PrintsName host.group group
  pub user_is : PrintsName host.user user
  pub line_is : line ≡ column 15 (dotted ip) ++ column 15 computer ++ column 15 group ++ column 15 user ++ column 6 (server_word host.server) ++ unit_word host.unit ++ newline

-- below it a line for each name, as a node status has it, behind two spaces
abbrev pub IsNameBelow : (name line : List ℕ) → Type 0
IsNameBelow name line = (text : List ℕ) × IsNameLine name text × (line ≡ codes "  " ++ text)

-- ---- a line of /etc/hosts

-- a file server's name, and where it has none the computer's
abbrev pub name_of : Host → Option (List ℕ)
name_of host = server_or host.server host.computer
  where
    server_or : (server computer : Option (List ℕ)) → Option (List ℕ)
    server_or None computer = computer
    server_or (Some name) computer = Some name

-- as `192.0.2.7 FILER`; nothing where the name isn't a host's
pub data IsHostsLine (ip : ℕ) (host : Host) (line : List ℕ) : Type 0 where
  of_host : (word : List ℕ) → PrintsName (name_of host) word → IsHostName word → line ≡ host_line ip word → IsHostsLine ip host line
  of_other : (word : List ℕ) → PrintsName (name_of host) word → ¬ IsHostName word → line ≡ [] → IsHostsLine ip host line

-- ---- each form

abbrev pub PrintsHost : Form → (ip : ℕ) → (names statistics lines : List ℕ) → Type 0
PrintsHost Plain ip names statistics lines = (host : Host) × IsHost names statistics host × IsColumns ip host lines
PrintsHost Long ip names statistics lines = (host : Host) × IsHost names statistics host × (line : List ℕ) × IsColumns ip host line × (below : List ℕ) × PrintsRows 18 IsNameBelow names below × (lines ≡ line ++ below)
PrintsHost Hosts ip names statistics lines = (host : Host) × IsHost names statistics host × IsHostsLine ip host lines
PrintsHost Json ip names statistics lines = (host : Host) × IsHost names statistics host × IsObject ip host names lines
