use Rattle.std.proofs.Common.{◌≡◌, ◌+◌, arith, refl, ap, ◌∙◌, ℕ}
use Rattle.nbt_packet.proofs.Common.{slice_range, word_at, err_from_is_err_and, record_name, record_cut, rdata_cut}
use Rattle.nbt_packet.proofs.decoding.record_at.Goals as goal

pub returns-in_err-name-clause-fault : goal.returns-in_err-name-clause-fault
returns-in_err-name-clause-fault c =
    let p = err_from_is_err_and c.from_residual.result c.from_residual.ensures.1 in
    rw (p.1, p.2) (record_name c.in_err-name.field-0.0 ((c.in_err-name.ensures.fault c.in_err-name.field-0.0).0 refl))

pub returns-then-octets-named-lt10-clause-fault : goal.returns-then-octets-named-lt10-clause-fault
returns-then-octets-named-lt10-clause-fault c =
    rw c.short_of.ensures (record_cut c.in_ok-name.name c.in_ok-name.named ((c.in_ok-name.ensures.name c.in_ok-name.name c.in_ok-name.named).0 refl) (omega (arith, c.in_ok-name.ensures.within)))

pub returns-then-octets-begin-clause-fault : goal.returns-then-octets-begin-clause-fault
returns-then-octets-begin-clause-fault c =
    rw c.short_of-then-octets-begin.ensures (rdata_cut c.in_ok-name.name c.in_ok-name.named ((c.in_ok-name.ensures.name c.in_ok-name.name c.in_ok-name.named).0 refl) (omega (arith, c.in_ok-name.ensures.within)) (omega (arith, c.in_ok-name.ensures.within)))

pub returns-clause-record : goal.returns-clause-record
returns-clause-record c =
    let count : c.from-rdlength.result ≡ word_at c.args.octets.now (c.in_ok-name.named + 8) = c.from-rdlength.ensures ∙ c.read_word.ensures in
    record {
      named = c.in_ok-name.named;
      name = (c.in_ok-name.ensures.name c.in_ok-name.name c.in_ok-name.named).0 refl;
      fits = omega (arith, c.in_ok-name.ensures.within);
      rtype = c.read_word-2.ensures;
      class = c.read_word-3.ensures;
      ttl = c.read_long.ensures;
      whole = rw (← count) (omega (arith, c.in_ok-name.ensures.within));
      rdata = ap (λ (k : ℕ). slice_range c.args.octets.now (c.in_ok-name.named + 10) (c.in_ok-name.named + 10 + k)) count;
      next_is = ap (λ (k : ℕ). c.in_ok-name.named + 10 + k) count;
    }
