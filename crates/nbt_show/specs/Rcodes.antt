-- RCODEs in words: the tables of RFC 1002 sections 4.2.6, 4.2.11 and 4.2.14, shortened (our profile).
use Rattle.std.specs.Prelude.{ℕ, nat_eq, if◌then◌else◌, List, codes}

abbrev pub rcode_words : ℕ → List ℕ
rcode_words rcode =
    if nat_eq rcode 1 then codes "malformed request"
    else (if nat_eq rcode 2 then codes "server failure"
    else (if nat_eq rcode 3 then codes "no such name"
    else (if nat_eq rcode 4 then codes "unsupported request"
    else (if nat_eq rcode 5 then codes "refused"
    else (if nat_eq rcode 6 then codes "held by another"
    else (if nat_eq rcode 7 then codes "in conflict" else codes "unknown"))))))
