-- What the suffix of a name means.
use Rattle.std.specs.Prelude.{ℕ, nat_eq, if◌then◌else◌, List, [], codes}
use Rattle.nbt_name.specs.declared.addr.Kind.{Kind}
use Rattle.nbt_name.specs.declared.addr.Kind.TheVariants.{Unique, Group}

-- What Microsoft's list of NetBIOS suffixes calls them, as the documentation of Samba and of its nmblookup has it, for one
-- machine's names and for a group's. RFC 1001 has no such list.
abbrev pub unique_words : (suffix : ℕ) → List ℕ
unique_words suffix =
    if nat_eq suffix 0x00 then codes "workstation"
    else (if nat_eq suffix 0x03 then codes "messenger"
    else (if nat_eq suffix 0x06 then codes "remote access server"
    else (if nat_eq suffix 0x1B then codes "domain master browser"
    else (if nat_eq suffix 0x1D then codes "master browser"
    else (if nat_eq suffix 0x1F then codes "network DDE"
    else (if nat_eq suffix 0x20 then codes "file server"
    else (if nat_eq suffix 0x21 then codes "remote access client" else [])))))))

abbrev pub group_words : (suffix : ℕ) → List ℕ
group_words suffix =
    if nat_eq suffix 0x00 then codes "domain or workgroup"
    else (if nat_eq suffix 0x1C then codes "domain controllers"
    else (if nat_eq suffix 0x1E then codes "browser service elections" else []))

abbrev pub words_of : (suffix : ℕ) → Kind → List ℕ
words_of suffix Unique = unique_words suffix
words_of suffix Group = group_words suffix
