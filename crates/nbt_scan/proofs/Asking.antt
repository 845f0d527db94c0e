-- What is done at a moment.
use Rattle.std.proofs.Common.{◌≡◌, ℕ, Bool, true, false, List, [], ◌∷◌, Some, Result, sym, subst, ap, ◌∙◌}
use Rattle.std.specs.List.{slice_get}
use Rattle.std.specs.Prelude.{slice_index}
use Rattle.nbt_port.specs.declared.port.Device.{Device}
use Rattle.nbt_port.specs.PortCalls.{PortCall, sending, route_to}
use Rattle.nbt_scan.specs.declared.plan.Plan.{Plan}
use Rattle.nbt_scan.specs.declared.progress.Progress.{Progress}
use Rattle.nbt_scan.specs.declared.progress.Step.TheVariants.{Ask, Again}
use Rattle.nbt_scan.specs.declared.scan.Scan.{Scan}
use Rattle.nbt_scan.specs.Progressing.{past, again}
use Rattle.nbt_scan.specs.Scanning.{Acts, asks, passes_over, begins_again, end_at, request_at}
use Rattle.nbt_scan.specs.Sheets.{Sheet}
use Rattle.nbt_scan.specs.Inner.Steps.{Acted}

module _ {P : Type 0} (does : P → PortCall → P → Type 0) (plan : Plan) (ids : List ℕ) (now : ℕ) (p : P) (scan : Scan) (sheet : Sheet) (progress : Progress) where
  pub was_passed_over : (has : Bool) → slice_get scan.replied scan.progress.place ≡ Some has → has ≡ true → progress ≡ past now scan.progress
      → Acted does plan ids now Ask (record { port = p; scan = scan; sheet = sheet }) (record { port = p; scan = record scan { progress = progress }; sheet = sheet })
  was_passed_over has is was after = (
    [],
    subst (λ (q : Progress). Acts does plan ids now (record { port = p; scan = scan; sheet = sheet }) Ask [] (record { port = p; scan = record scan { progress = q }; sheet = sheet })) (sym after) (passes_over (is ∙ ap Some was)),
  )

  pub was_asked : (q : P) (has : Bool) (ip : ℕ) (octets : List ℕ) (result : Result (Unit {0}) Device) → slice_get scan.replied scan.progress.place ≡ Some has → has ≡ false → ip ≡ slice_index plan.ips.items scan.progress.place → octets ≡ request_at ids scan.progress.place
      → does p (sending (route_to (record { ip = ip; port = plan.port })) octets result) q
      → progress ≡ past now scan.progress → Acted does plan ids now Ask (record { port = p; scan = scan; sheet = sheet }) (record { port = q; scan = record scan { progress = progress }; sheet = sheet })
  was_asked q has ip octets result is was same wrote did after = (
    sending (route_to (end_at plan scan.progress.place)) (request_at ids scan.progress.place) result ∷ [],
    subst (λ (r : Progress). Acts does plan ids now (record { port = p; scan = scan; sheet = sheet }) Ask (sending (route_to (end_at plan scan.progress.place)) (request_at ids scan.progress.place) result ∷ []) (record { port = q; scan = record scan { progress = r }; sheet = sheet })) (sym after)
        (asks q result (is ∙ ap Some was)
        (subst (λ (o : List ℕ). does p (sending (route_to (end_at plan scan.progress.place)) o result) q) wrote (subst (λ (n : ℕ). does p (sending (route_to (record { ip = n; port = plan.port })) octets result) q) same did))),
  )

  pub began_again : progress ≡ again now scan.progress → Acted does plan ids now Again (record { port = p; scan = scan; sheet = sheet }) (record { port = p; scan = record scan { progress = progress }; sheet = sheet })
  began_again after = (
    [],
    subst (λ (q : Progress). Acts does plan ids now (record { port = p; scan = scan; sheet = sheet }) Again [] (record { port = p; scan = record scan { progress = q }; sheet = sheet })) (sym after) begins_again,
  )
