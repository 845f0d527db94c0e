-- What became of a look, by the parts of who keeps the text.
use Rattle.std.proofs.Common.{◌≡◌, ◌≢◌, ℕ, List, Option, Some, sym, ap, subst, ◌∙◌}
use Rattle.nbt_nbns.specs.Keeping.{KeeperValue, IsDue, Keeps, early, same, written, no_memory, refused}
use Rattle.nbt_nbns.specs.declared.keeper.Kept.TheVariants as k

module _ {L : Type 0} (puts refuses : L → List ℕ → L → Type 0) (IsText : List ℕ → Type 0) (now : ℕ) (old : KeeperValue L) (looked : Option ℕ) (had : Option (List ℕ)) (place : L)
    (is : old ≡ record { looked = looked; text = had; place = place }) where
  pub early_look : ¬ IsDue looked now → Keeps puts refuses IsText now old k.Early old
  early_look not = early (λ due. not (subst (λ (o : KeeperValue L). IsDue o.looked now) is due))

  module _ (due : IsDue old.looked now) where
    pub same_text : (text : List ℕ) → IsText text → had ≡ Some text → Keeps puts refuses IsText now old k.Same (record { looked = Some now; text = had; place = place })
    same_text text prints has = subst (λ (o : KeeperValue L). Keeps puts refuses IsText now old k.Same (record o { looked = Some now })) is (same text due prints (ap (λ (o : KeeperValue L). o.text) is ∙ has))

    pub written_text : (text : List ℕ) (to : L) → IsText text → had ≢ Some text → puts place text to → Keeps puts refuses IsText now old k.Written (record { looked = Some now; text = Some text; place = to })
    written_text text to prints not put =
        written text to due prints (λ e. not (sym (ap (λ (o : KeeperValue L). o.text) is) ∙ e)) (subst (λ (p : L). puts p text to) (sym (ap (λ (o : KeeperValue L). o.place) is)) put)

    -- memory was refused
    pub no_memory_look : Keeps puts refuses IsText now old k.Failed (record { looked = Some now; text = had; place = place })
    no_memory_look = subst (λ (o : KeeperValue L). Keeps puts refuses IsText now old k.Failed (record o { looked = Some now })) is (no_memory due)

    pub refused_text : (text : List ℕ) (to : L) → IsText text → had ≢ Some text → refuses place text to → Keeps puts refuses IsText now old k.Failed (record { looked = Some now; text = had; place = to })
    refused_text text to prints not refuse =
        subst (λ (t : Option (List ℕ)). Keeps puts refuses IsText now old k.Failed (record { looked = Some now; text = t; place = to })) (ap (λ (o : KeeperValue L). o.text) is)
        (refused text to due prints (λ e. not (sym (ap (λ (o : KeeperValue L). o.text) is) ∙ e)) (subst (λ (p : L). refuses p text to) (sym (ap (λ (o : KeeperValue L). o.place) is)) refuse))
