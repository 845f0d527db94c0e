-- A server that begins with another number of rows: it begins with that of the server that ran, and has its own in a second act.
use Rattle.std.proofs.Common.{◌≡◌, ℕ, [], ◌∷◌, refl, ap, ◌∙◌}
use Rattle.nbt_lease.specs.Config.{ConfigValue, config_of}
use Rattle.nbt_port.specs.PortCalls.{Chain}
use Rattle.nbt_server.specs.Calls.{ServerStarts, ServerResumes}
use Rattle.nbt_server.specs.Serving.{ServerValue}
use Rattle.nbt_net.specs.Servers.{ServerEnd, up, down, act_at, with_rows, ServerLives, resumes, has_rows}

-- limits that differ in their rows alone
pub same_but_rows : (one other : ConfigValue) → one.life ≡ other.life → one.longest ≡ other.longest → record one { rows = other.rows } ≡ other
same_but_rows one other life longest = λ j. config_of (life j) (longest j) other.rows

-- as it was
pub resumes_as_was : (was server : ServerValue) (rows now : ℕ) → ServerResumes (with_rows rows was) now server → ServerResumes was now (with_rows was.table.config.rows server)
resumes_as_was was server rows now is = record {
  leases = is.leases;
  start = is.start;
  config = ap (λ (c : ConfigValue). record c { rows = was.table.config.rows }) is.config;
  limit = is.limit;
  was_called = is.was_called;
  called = is.called;
}

pub starts_as : (config other : ConfigValue) (now : ℕ) (server : ServerValue) → other.life ≡ config.life → other.longest ≡ config.longest → ServerStarts other now server → ServerStarts config now (with_rows config.rows server)
starts_as config other now server life longest is = record {
  start = is.start;
  last = is.last;
  config_is = ap (λ (c : ConfigValue). record c { rows = config.rows }) is.config_is ∙ same_but_rows other config life longest;
  empty = is.empty;
  no_limit = is.no_limit;
}

module _ (config : ConfigValue) where
  -- it begins with some number of rows, and has its own then
  pub then_rows : (now rows : ℕ) (before : ServerEnd) (server : ServerValue) → ServerLives config before (act_at now) (up (with_rows rows server)) → Chain (ServerLives config) before (act_at now ∷ act_at now ∷ []) (up server)
  then_rows now rows before server begins = (up (with_rows rows server), begins, (up server, has_rows now server.table.config.rows (with_rows rows server), refl))

  pub resumes_with : (now rows : ℕ) (was server : ServerValue) → ServerResumes (with_rows rows was) now server → Chain (ServerLives config) (down was) (act_at now ∷ act_at now ∷ []) (up server)
  resumes_with now rows was server is = then_rows now was.table.config.rows (down was) server (resumes now was (with_rows was.table.config.rows server) (resumes_as_was was server rows now is))
