-- What a disk does, call by call (our profile).
use Rattle.std.specs.Prelude.{ℕ, List, Result, Ok, Err}

-- One call of a disk, with what came of it: a new file of these octets was made beside the file, and made durable; these octets were
-- written at its end, and made durable; it took the place of the file; these octets were written at the end of the file; its octets were
-- made durable; or that failed.
pub data DiskCall : Type 0 where
  created : List ℕ → DiskCall
  create_failed : List ℕ → DiskCall
  added_beside : List ℕ → DiskCall
  add_beside_failed : List ℕ → DiskCall
  installed : DiskCall
  install_failed : DiskCall
  added : List ℕ → DiskCall
  add_failed : List ℕ → DiskCall
  flushed : DiskCall
  flush_failed : DiskCall

-- what a call was, by what it returned
abbrev pub creating : {A E : Type 0} → (octets : List ℕ) → Result A E → DiskCall
creating octets (Ok done) = created octets
creating octets (Err why) = create_failed octets

abbrev pub adding_beside : {A E : Type 0} → (octets : List ℕ) → Result A E → DiskCall
adding_beside octets (Ok done) = added_beside octets
adding_beside octets (Err why) = add_beside_failed octets

abbrev pub installing : {A E : Type 0} → Result A E → DiskCall
installing (Ok done) = installed
installing (Err why) = install_failed

abbrev pub adding : {A E : Type 0} → (octets : List ℕ) → Result A E → DiskCall
adding octets (Ok done) = added octets
adding octets (Err why) = add_failed octets

abbrev pub flushing : {A E : Type 0} → Result A E → DiskCall
flushing (Ok done) = flushed
flushing (Err why) = flush_failed
