-- What was received, and what is told of it.
use Rattle.std.proofs.Common.{◌≡◌, ℕ, Bool, true, false, List, [], ◌∷◌, ◌++◌, Option, Ok, subst, sym, ap, ◌∙◌, refl}
use Rattle.std.specs.Io.KnownBytes.{Appends}
use Rattle.std.specs.String.{string_bytes}
use Rattle.nbt_port.specs.declared.port.Route.{Route}
use Rattle.nbt_port.specs.PortCalls.{PortCall, receiving}
use Rattle.nbt_scan.specs.declared.form.Layout.{Layout}
use Rattle.nbt_scan.specs.declared.plan.Plan.{Plan}
use Rattle.nbt_scan.specs.declared.scan.Scan.{Scan}
use Rattle.nbt_scan.specs.Scanning.{Hears}
use Rattle.nbt_scan.specs.declared.sheet.Kept.{Kept}
use Rattle.nbt_scan.specs.Lines.{PrintsHost}
use Rattle.nbt_scan.specs.Sheets.{Reply, Sheet, Tells, prints, keeps, TellsIf}
use Rattle.nbt_scan.specs.Inner.Steps.{WasHeard}

pub was_heard : {P : Type 0} (does : P → PortCall → P → Type 0) (plan : Plan) (ids : List ℕ) (layout : Layout) (p q : P) (scan : Scan) (after : List Bool) (a b : Sheet) (from : Option Route) (octets lent : List ℕ) (reply : Option Reply)
    → lent ≡ octets → does p (receiving (Ok from) octets) q → Hears plan ids scan.progress scan.replied (receiving (Ok from) lent) reply after → TellsIf layout reply a b
    → WasHeard does plan ids layout (record { port = p; scan = scan; sheet = a }) (record { port = q; scan = record scan { replied = after }; sheet = b })
was_heard does plan ids layout p q scan after a b from octets lent reply same did hears tells = record {
  hearing = receiving (Ok from) octets;
  reply = reply;
  receives = did;
  hears = subst (λ (o : List ℕ). Hears plan ids scan.progress scan.replied (receiving (Ok from) o) reply after) same hears;
  progress_stays = refl;
  tells = tells;
}

-- ---- the lines of a host

pub was_kept : (layout : Layout) (reply : Reply) (old : Sheet) (kept : Kept) (new : List Kept) (first lines : List ℕ) → layout.sorted ≡ true → kept.ip ≡ reply.ip → first ≡ [] → string_bytes kept.text ≡ first ++ lines
    → PrintsHost layout.form reply.ip reply.names reply.statistics lines → new ≡ old.kept ++ kept ∷ [] → Tells layout reply old (record { kept = new; text = old.text })
was_kept layout reply old kept new first lines is who none whole shown more =
    subst (λ (ks : List Kept). Tells layout reply old (record { kept = ks; text = old.text })) (sym more)
    (keeps kept is who (subst (λ (t : List ℕ). PrintsHost layout.form reply.ip reply.names reply.statistics t) (sym (whole ∙ ap (λ (front : List ℕ). front ++ lines) none)) shown))

pub was_printed : (layout : Layout) (reply : Reply) (old : Sheet) (text : Option (List ℕ)) (first lines given : List ℕ) → layout.sorted ≡ false → first ≡ [] → given ≡ first ++ lines
    → PrintsHost layout.form reply.ip reply.names reply.statistics lines → Appends old.text text given → Tells layout reply old (record { kept = old.kept; text = text })
was_printed layout reply old text first lines given is none whole says appends =
    prints lines text is says (subst (λ (t : List ℕ). Appends old.text text t) (whole ∙ ap (λ (front : List ℕ). front ++ lines) none) appends)
