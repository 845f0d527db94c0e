use Rattle.std.proofs.Common.{inl, inr, refl, arith}
use Rattle.std.proofs.lemmas.Result.{err_from_is_err_and}
use Rattle.nbt_admin.proofs.scanning.scan_arguments.Goals as goal

pub returns-in_err-wait-clause-reads : goal.returns-in_err-wait-clause-reads
returns-in_err-wait-clause-reads c =
    let p = err_from_is_err_and c.from_residual-in_err-wait.result c.from_residual-in_err-wait.ensures.1 in
    rw (p.1, p.2) (inr (inr (c.in_ok-rate.rate, (c.in_ok-rate.ensures, inr (inl c.in_err-wait.ensures)))))

pub returns-in_err-port-clause-reads : goal.returns-in_err-port-clause-reads
returns-in_err-port-clause-reads c =
    let p = err_from_is_err_and c.from_residual-in_err-port.result c.from_residual-in_err-port.ensures.1 in
    rw (p.1, p.2) (inr (inr (c.in_ok-rate.rate, (c.in_ok-rate.ensures, inr (inr (c.in_ok-wait.wait, (c.in_ok-wait.ensures, inr (inl c.in_err-port.ensures))))))))

pub returns-in_err-bind-clause-reads : goal.returns-in_err-bind-clause-reads
returns-in_err-bind-clause-reads c =
    let p = err_from_is_err_and c.from_residual-in_err-bind.result c.from_residual-in_err-bind.ensures.1 in
    rw (p.1, p.2) (inr (inr (c.in_ok-rate.rate, (c.in_ok-rate.ensures, inr (inr (c.in_ok-wait.wait, (c.in_ok-wait.ensures, inr (inr (c.in_ok-port.port, (c.in_ok-port.ensures, inr (inl c.in_err-bind.ensures)))))))))))

pub returns-in_err-spans-clause-reads : goal.returns-in_err-spans-clause-reads
returns-in_err-spans-clause-reads c =
    let p = err_from_is_err_and c.from_residual-in_err-spans.result c.from_residual-in_err-spans.ensures.1 in
    rw (p.1, p.2, ← c.as_slice.ensures.value) (inr (inr (c.in_ok-rate.rate, (c.in_ok-rate.ensures, inr (inr (c.in_ok-wait.wait, (c.in_ok-wait.ensures, inr (inr (c.in_ok-port.port, (c.in_ok-port.ensures, inr (inr (c.in_ok-bind.bind, (c.in_ok-bind.ensures, inr (inl c.in_err-spans.ensures.failure))))))))))))))

pub returns-in_err-ips-clause-reads : goal.returns-in_err-ips-clause-reads
returns-in_err-ips-clause-reads c =
    let p = err_from_is_err_and c.from_residual-in_err-ips.result c.from_residual-in_err-ips.ensures.1 in
    rw (p.1, p.2) (inl refl)

pub returns-clause-reads : goal.returns-clause-reads
returns-clause-reads c = (
  c.in_ok-rate.rate,
  (
    c.in_ok-rate.ensures,
    (
      c.in_ok-wait.wait,
      (
        c.in_ok-wait.ensures,
        (
          c.in_ok-port.port,
          (
            c.in_ok-port.ensures,
            (
              c.in_ok-bind.bind,
              (
                c.in_ok-bind.ensures,
                (
                  c.in_ok-spans.spans.items,
                  (
                    rw (← c.as_slice.ensures.value) c.in_ok-spans.ensures.read,
                    record {
                      bind_is = refl;
                      rate_is = refl;
                      wait_is = refl;
                      port_is = refl;
                      ips_are = rw (← c.as_slice-runs.ensures.value) c.in_ok-ips.ensures;
                      tries_are = c.tries_of.ensures;
                      form_is = c.form_of.ensures;
                      sorted_is = refl;
                      progress_is = refl;
                    },
                  ),
                ),
              ),
            ),
          ),
        ),
      ),
    ),
  ),
)

pub returns-clause-sound : goal.returns-clause-sound
returns-clause-sound c = record { few = c.in_ok-ips.ensures.few; ascending = c.in_ok-ips.ensures.ascending; some_rate = omega (arith, c.in_ok-rate.ensures.1.0); some_tries = omega (arith, c.tries_of.ensures.some) }
