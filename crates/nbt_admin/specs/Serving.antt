-- The arguments of `nbns` (our profile).
use Rattle.std.specs.Prelude.{◌≡◌, ◌≢◌, ◌⊎◌, ◌++◌, ◌∷◌, ℕ, Bool, List, [], Any, Option, Some, None, ⊤, Result, String, codes}
use Rattle.std.specs.Borrow.{Bor}
use Rattle.std.specs.Global.{Vec}
use Rattle.std.specs.Option.{option_map, unwrap_or}
use Rattle.std.specs.String.{string_bytes}
use Rattle.nbt_name.specs.declared.addr.Addr.{Addr}
use Rattle.nbt_lease.specs.Config.{ConfigValue, large_rows_most}
use Rattle.nbt_port.specs.declared.bind.Bind.{Bind}
use Rattle.nbt_port.specs.declared.bind.Bind.TheVariants.{To, Every}
use Rattle.nbt_front.specs.Networks.{NetworkValue, SpellsNetwork}
use Rattle.nbt_nbns.specs.declared.arguments.ServerArguments.{ServerArguments}
use Rattle.nbt_nbns.specs.declared.arguments.StateFolder.{StateFolder}
use Rattle.nbt_args.specs.declared.texts.NbnsTexts.{NbnsTexts}
use Rattle.std.specs.Result.{MatchResult}
use Rattle.nbt_admin.specs.Failures.{Reports, IsBad, out_of_memory}
use Rattle.nbt_admin.specs.Reading.{Reads, Where, Then, Each, Fits, Gives, Makes, IfGiven}
use Rattle.nbt_admin.specs.Texts.{ReadsHere}
use Rattle.nbt_admin.specs.Times.{ReadsConfig, ReadsTime, NeedsFit, ReadsChanges, ReadsLogRate, ReadsUpTo, client_changes, client_rows, log_rate, with_rows}
use Rattle.nbt_admin.specs.declared.failure.ArgumentFault.{ArgumentFault}
use Rattle.nbt_admin.specs.declared.failure.ArgumentFault.TheVariants as w
use Rattle.nbt_admin.specs.declared.failure.Failure.{Failure}
use Rattle.nbt_admin.specs.declared.serving.Files.{Files}

-- ---- addresses and networks

-- the port of a name server (RFC 1002 section 4.2.1)
abbrev pub name_port : ℕ
name_port = 137

-- an address of this machine that none before it is
abbrev pub ReadsNext : (before : List Addr) → Bor (List ℕ) → Result Addr Failure → Type 0
ReadsNext before text = Where (ReadsHere text.now) (λ address. ¬ Any (λ other. other ≡ address) before) (Reports text.now w.AddressTwice)

-- without an address, each of the machine
pub data IsBind (addresses : List Addr) : Bind → Type 0 where
  every : addresses ≡ [] → IsBind addresses (Every name_port)
  these : (given : Vec Addr) → given.items ≡ addresses → addresses ≢ [] → IsBind addresses (To given)

abbrev pub ReadsBind : List (Bor (List ℕ)) → Result Bind Failure → Type 0
ReadsBind texts = Then (Each ReadsNext [] texts) (λ addresses. Makes (IsBind addresses))

abbrev pub ReadsNetwork : (before : List NetworkValue) → Bor (List ℕ) → Result NetworkValue Failure → Type 0
ReadsNetwork before text = Reads (SpellsNetwork text.now) (Reports text.now w.Network)

-- ---- files

-- any path but the empty one
abbrev pub ReadsPath : {A : Type 0} → ArgumentFault → List ℕ → Result (String A) Failure → Type 0
ReadsPath fault text = Reads (λ path. (string_bytes path ≡ text) × (text ≢ [])) (Reports text fault)

-- two paths that aren't the same, where both are given
abbrev pub path_of : Option (Bor (List ℕ)) → Option (List ℕ)
path_of = option_map (λ text. text.now)

abbrev pub AreApart : Option (List ℕ) → Option (List ℕ) → Type 0
AreApart None other = ⊤
AreApart (Some one) other = other ≢ Some one

abbrev pub TwiceFails : Option (List ℕ) → Option (List ℕ) → Failure → Type 0
TwiceFails one other failure = (failure ≡ out_of_memory) ⊎ ((path : List ℕ) × (one ≡ Some path) × (other ≡ Some path) × IsBad path w.PathTwice failure)

abbrev pub NeedsOther : (one other : Option (Bor (List ℕ))) → Result Unit Failure → Type 0
NeedsOther one other result = MatchResult result (λ _. AreApart (path_of one) (path_of other)) (TwiceFails (path_of one) (path_of other))

-- an empty path is said first, and then one that an earlier one is too
abbrev pub ReadsFiles : NbnsTexts → Result Files Failure → Type 0
ReadsFiles texts = Then (IfGiven (ReadsPath w.NoPath) texts.leases) (λ leases.
    Then (IfGiven (ReadsPath w.NoHosts) texts.hosts) (λ hosts.
    Then (IfGiven (ReadsPath w.NoStats) texts.stats) (λ stats.
    Then (NeedsOther texts.leases texts.hosts) (λ _.
    Then (NeedsOther texts.leases texts.stats) (λ _.
    Then (NeedsOther texts.hosts texts.stats) (λ _.
    Gives (record { leases = leases; hosts = hosts; stats = stats })))))))

-- ---- the files that the folder of a state has for itself

abbrev pub slash : ℕ
slash = 0x2F

-- the last component of a path is this name: nothing stands before it, or a slash does
pub record IsNamed (name path : List ℕ) : Type 0 where
  pub folder : List ℕ
  pub path_is : path ≡ folder ++ name
  pub before : (folder ≡ []) ⊎ ((rest : List ℕ) × (folder ≡ rest ++ slash ∷ []))

-- a new file of leases before it takes the old one's place, and one that could not be loaded
abbrev pub IsStores : (path : List ℕ) → Type 0
IsStores path = IsNamed (codes "leases.new") path ⊎ IsNamed (codes "leases.bad") path

-- where the leases are kept in a folder, no file has such a name
abbrev pub NeedsFree : NbnsTexts → Result Unit Failure → Type 0
NeedsFree texts = Then (Fits (λ path. texts.state ≢ None → ¬ IsStores path) w.Stores texts.leases) (λ _.
    Then (Fits (λ path. texts.state ≢ None → ¬ IsStores path) w.Stores texts.hosts) (λ _.
    Fits (λ path. texts.state ≢ None → ¬ IsStores path) w.Stores texts.stats))

-- ---- all of them

-- where a server keeps its leases
abbrev pub ReadsFolder : (silent_after_boot : Bool) → List ℕ → Result StateFolder Failure → Type 0
ReadsFolder silent text = Reads (λ folder. (string_bytes folder.path ≡ text) × ((folder.silent_after_boot ≡ silent) × (text ≢ []))) (Reports text w.Folder)

-- What is read but for the networks. No name is fixed yet.
abbrev pub ReadsNbns : NbnsTexts → (allowed : List NetworkValue) → Result ServerArguments Failure → Type 0
ReadsNbns texts allowed = Then (ReadsConfig texts.life.now texts.longest.now) (λ config.
    Then (IfGiven ReadsTime texts.time) (λ time.
    Then (NeedsFit config) (λ _.
    Then (ReadsBind texts.binds.items) (λ bind.
    Then (IfGiven (ReadsFolder texts.silent_after_boot) texts.state) (λ state.
    Then (ReadsFiles texts) (λ files.
    Then (NeedsFree texts) (λ _.
    Then (IfGiven (ReadsUpTo large_rows_most w.Rows) texts.rows) (λ rows.
    Then (IfGiven (ReadsUpTo large_rows_most w.ClientRows) texts.rows_per_client) (λ of_client.
    Then (IfGiven ReadsChanges texts.changes_per_client) (λ changes.
    Then (IfGiven ReadsLogRate texts.log_rate) (λ rate.
    Gives (record {
      nbns = record {
        bind = bind;
        config = with_rows config rows;
        time = time;
        log = texts.log;
        broadcasts = texts.broadcasts;
        log_rate = unwrap_or rate log_rate;
        leases = files.leases;
        hosts = files.hosts;
        stats = files.stats;
        strict = texts.strict;
        rows_per_client = unwrap_or of_client client_rows;
        changes_per_client = unwrap_or changes client_changes;
        front = record { allowed = allowed; fixed = []; longest = config.longest };
      };
      state = state;
    }))))))))))))

-- the file of networks has a path, and that of fixed names
abbrev pub NeedsPaths : NbnsTexts → Result Unit Failure → Type 0
NeedsPaths texts = Then (Fits (λ path. path ≢ []) w.NoAllowed texts.allow_file) (λ _. Fits (λ path. path ≢ []) w.NoFixed texts.fixed)

-- the networks come first, and then the paths of both files
abbrev pub ReadsServer : NbnsTexts → Result ServerArguments Failure → Type 0
ReadsServer texts = Then (Each ReadsNetwork [] texts.allow.items) (λ allowed.
    Then (NeedsPaths texts) (λ _.
    ReadsNbns texts allowed))
