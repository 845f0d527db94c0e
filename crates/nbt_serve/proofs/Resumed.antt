-- A server that resumes with what was kept.
use Rattle.std.proofs.Common.{◌≡◌, ℕ, ◌≤◌, refl, ◌∙◌}
use Rattle.nbt_lease.specs.Lease.{Leases, Rows, is_live, leases_at}
use Rattle.nbt_lease.proofs.Common.{filter, NameValue}
use Rattle.nbt_lease.proofs.Rows.{same_leases}
use Rattle.nbt_server.specs.Serving.{ServerValue}
use Rattle.nbt_server.specs.Calls.{ServerResumes, kept_server, limited}
use Rattle.nbt_serve.specs.Changing.{IsKept}
use Rattle.nbt_serve.proofs.Told.{KeptAt, kept_at}

pub resumes_kept : (was server : ServerValue) (kept : Leases) (rows : Rows) (last now : ℕ) → IsKept kept was → was.last ≤ now → ((name : NameValue) → leases_at now rows name ≡ filter (is_live now) (kept name))
    → ServerResumes (kept_server was.table.config was.start last rows) now server → ServerResumes was now (limited was.client_rows server)
resumes_kept was server kept rows last now k onward same r =
    let at : KeptAt now kept (leases_at now was.table.rows) = kept_at kept was now onward k in
    record {
      leases = r.leases ∙ same_leases (leases_at now rows) (leases_at now was.table.rows) (λ name. same name ∙ at.live name);
      start = r.start;
      config = r.config;
      limit = refl;
      was_called = onward;
      called = r.called;
    }
