-- The arguments of `host` and of `release` (our profile).
use Rattle.std.specs.Prelude.{◌≡◌, ◌≢◌, ◌≤◌, ◌⊎◌, ◌+◌, ℕ, Bool, true, List, [], ◌∷◌, Any, length, Result}
use Rattle.std.specs.Borrow.{Bor}
use Rattle.nbt_client.specs.declared.turning.Want.{Want}
use Rattle.nbt_name.specs.declared.addr.Addr.{Addr}
use Rattle.nbt_name.specs.declared.addr.Kind.{Kind}
use Rattle.nbt_name.specs.declared.addr.Kind.TheVariants.{Unique, Group}
use Rattle.nbt_host.specs.declared.arguments.HostArguments.{HostArguments}
use Rattle.nbt_args.specs.declared.texts.HostTexts.{HostTexts}
use Rattle.nbt_admin.specs.Failures.{Reports}
use Rattle.nbt_admin.specs.Reading.{Needs, Where, Then, Each, Gives, Makes, IfGiven}
use Rattle.nbt_admin.specs.Texts.{ReadsSought, ReadsPeer, ReadsOwn, NeedsApart}
use Rattle.nbt_admin.specs.Times.{ReadsConfig, ReadsTime, NeedsFit}
use Rattle.nbt_admin.specs.declared.failure.ArgumentFault.TheVariants as w
use Rattle.nbt_admin.specs.declared.failure.Complaint.TheVariants as complaint
use Rattle.nbt_admin.specs.declared.failure.Failure.{Failure}
use Rattle.nbt_admin.specs.declared.failure.Failure.TheVariants.{Complaint}

-- a name that none before it is, wanted for as long as the server allows
abbrev pub ReadsWant : (exact : Bool) → (scope : List ℕ) → Kind → (before : List Want) → Bor (List ℕ) → Result Want Failure → Type 0
ReadsWant exact scope kind before text = Then (Where (ReadsSought exact scope text.now) (λ name. ¬ Any (λ want. want.name ≡ name) before) (Reports text.now w.Twice)) (λ name.
    Gives (record { name = name; kind = kind; ttl = 0 }))

-- the number of names, of which a node holds 14
abbrev pub count_of : HostTexts → ℕ
count_of texts = length texts.names.items + length texts.groups.items

-- the unique names come first
abbrev pub ReadsWants : HostTexts → Result (List Want) Failure → Type 0
ReadsWants texts = Then (Needs (count_of texts ≤ 14) (λ failure. failure ≡ Complaint (complaint.Many (count_of texts)))) (λ _.
    Then (Each (ReadsWant texts.exact texts.scope.now Unique) [] texts.names.items) (λ alone.
    Each (ReadsWant texts.exact texts.scope.now Group) alone texts.groups.items))

-- the number of servers
abbrev pub servers_of : HostTexts → ℕ
servers_of texts = 1 + length texts.others.items

-- Up to four servers, and several only where all are said to be addresses of one table.
abbrev pub NeedsOneTable : HostTexts → Result Unit Failure → Type 0
NeedsOneTable texts = Then (Needs (servers_of texts ≤ 4) (λ failure. failure ≡ Complaint (complaint.ManyServers (servers_of texts)))) (λ _.
    Needs ((texts.others.items ≡ []) ⊎ (texts.one_table ≡ true)) (λ failure. failure ≡ Complaint complaint.OneTable))

-- a server of a host with this own address
abbrev pub ReadsAway : (bind : Addr) → (text : List ℕ) → Result Addr Failure → Type 0
ReadsAway bind text = Then (ReadsPeer text) (λ other. Then (NeedsApart text other bind) (λ _. Gives other))

-- the first server, or one before it
abbrev pub IsServer : (first : Addr) → (before : List Addr) → Addr → Type 0
IsServer first before other = (first ≡ other) ⊎ Any (λ one. one ≡ other) before

-- such a server that none before it is
abbrev pub ReadsOther : (server bind : Addr) → (before : List Addr) → Bor (List ℕ) → Result Addr Failure → Type 0
ReadsOther server bind before text = Where (ReadsAway bind text.now) (λ other. ¬ IsServer server before other) (Reports text.now w.AddressTwice)

abbrev pub ReadsOthers : HostTexts → (server bind : Addr) → Result (List Addr) Failure → Type 0
ReadsOthers texts server bind = Then (NeedsOneTable texts) (λ _. Each (ReadsOther server bind) [] texts.others.items)

abbrev pub ReadsHost : HostTexts → Result HostArguments Failure → Type 0
ReadsHost texts = Then (ReadsConfig texts.life.now texts.longest.now) (λ config.
    Then (IfGiven ReadsTime texts.time) (λ time.
    Then (NeedsFit config) (λ _.
    Then (ReadsPeer texts.server.now) (λ server.
    Then (ReadsOwn texts.bind.now) (λ bind.
    Then (NeedsApart texts.server.now server bind) (λ _.
    Then (ReadsOthers texts server bind) (λ others.
    Then (ReadsWants texts) (λ wants.
    Makes (λ a. (a.others.items ≡ others) × (a.wants.items ≡ wants)
    × (a ≡ record { bind = bind; server = server; others = a.others; config = config; wants = a.wants; time = time; log = texts.log }))))))))))

-- the arguments of `host`, with a port that isn't for the system to choose
abbrev pub ReadsRelease : HostTexts → Result HostArguments Failure → Type 0
ReadsRelease texts = Where (ReadsHost texts) (λ a. a.bind.port ≢ 0) (Reports texts.bind.now w.AnyPort)
