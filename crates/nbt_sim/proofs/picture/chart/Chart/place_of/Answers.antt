use Rattle.std.proofs.Common.{◌≡◌, ℕ, ◌∙◌, List, [], ◌∷◌, ◌++◌, length, Some, ap, arith, length-append}
use Rattle.std.proofs.Math.Seq.{get_or-append_seam}
use Rattle.std.proofs.lemmas.Option.{slice_get-get_or}
use Rattle.std.specs.Prelude.{slice_get}
use Rattle.nbt_sim.proofs.picture.chart.Chart.place_of.Goals as goal

-- what is put behind others stands where they end
stands_last : {X : Type 0} (others : List X) (x : X) (count : ℕ) → count ≡ length others → slice_get (others ++ x ∷ []) count ≡ Some x
stands_last others x count is =
    rw is (slice_get-get_or (others ++ x ∷ []) (length others) x (omega (arith, length-append others (x ∷ []))) ∙ ap Some (get_or-append_seam others x [] x))

pub returns-clause-placed : goal.returns-clause-placed
returns-clause-placed c =
    rw (c.in_ok-push.ensures.items, c.copy.ensures) (stands_last c.args.self.now.names.items c.args.name.now c.len-place.result (c.len-place.ensures ∙ c.args.self.now.names.ok.0))
