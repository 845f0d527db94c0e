-- What became of a look at a list, by the parts of who keeps it.
use Rattle.std.proofs.Common.{◌≡◌, ◌≢◌, ℕ, List, Option, None, Some, sym, subst}
use Rattle.nbt_lease.specs.Lease.{Rows}
use Rattle.nbt_log.specs.Drafts.{DraftValue, IsDraftText, IsWhole, ListingValue}
use Rattle.nbt_nbns.specs.Listers.{ListerValue, IsLookDue, ListsOn, early, unfinished, same, written, no_memory, refused, next_draft}
use Rattle.nbt_nbns.specs.declared.keeper.Kept.{Kept}
use Rattle.nbt_nbns.specs.declared.keeper.Kept.TheVariants as k

module _ {L : Type 0} (puts refuses : L → List ℕ → L → Type 0) (listing : ListingValue) (rows : Rows) (now : ℕ) (old : ListerValue L) (looked : Option ℕ) (begun : Option DraftValue) (had : Option (List ℕ)) (place : L)
    (is : old ≡ record { looked = looked; draft = begun; text = had; place = place }) where
  abbrev Here : ListerValue L
  Here = record { looked = looked; draft = begun; text = had; place = place }

  -- from the parts to the whole
  came : (kept : Kept) (new : ListerValue L) → ListsOn puts refuses listing rows now Here kept new → ListsOn puts refuses listing rows now old kept new
  came kept new lists = subst (λ (o : ListerValue L). ListsOn puts refuses listing rows now o kept new) (sym is) lists

  pub early_list : ¬ IsLookDue looked begun now → ListsOn puts refuses listing rows now old k.Early old
  early_list not = early (λ due. not (subst (λ (o : ListerValue L). IsLookDue o.looked o.draft now) is due))

  module _ (due : IsLookDue old.looked old.draft now) where
    due_here : IsLookDue looked begun now
    due_here = subst (λ (o : ListerValue L). IsLookDue o.looked o.draft now) is due

    -- memory was refused
    pub no_memory_list : (left : Option DraftValue) → left ≡ None → ListsOn puts refuses listing rows now old k.Failed (record { looked = Some now; draft = left; text = had; place = place })
    no_memory_list left gone = came k.Failed (record { looked = Some now; draft = left; text = had; place = place })
        (subst (λ (d : Option DraftValue). ListsOn puts refuses listing rows now Here k.Failed (record { looked = Some now; draft = d; text = had; place = place })) (sym gone) (no_memory due_here))

    module _ (draft : DraftValue) (e : draft ≡ next_draft begun listing rows now) where
      pub unfinished_list : ¬ IsWhole draft → ListsOn puts refuses listing rows now old k.Unfinished (record { looked = Some now; draft = Some draft; text = had; place = place })
      unfinished_list not = came k.Unfinished (record { looked = Some now; draft = Some draft; text = had; place = place })
          (subst (λ (d : DraftValue). ListsOn puts refuses listing rows now Here k.Unfinished (record { looked = Some now; draft = Some d; text = had; place = place })) (sym e)
          (unfinished due_here (λ whole. not (subst (λ (d : DraftValue). IsWhole d) (sym e) whole))))

      module _ (whole : IsWhole draft) (left : Option DraftValue) (gone : left ≡ None) (text : List ℕ) (prints : IsDraftText draft text) where
        pub same_list : had ≡ Some text → ListsOn puts refuses listing rows now old k.Same (record { looked = Some now; draft = left; text = had; place = place })
        same_list has = came k.Same (record { looked = Some now; draft = left; text = had; place = place })
            (subst (λ (d : Option DraftValue). ListsOn puts refuses listing rows now Here k.Same (record { looked = Some now; draft = d; text = had; place = place })) (sym gone)
            (same text due_here (subst (λ (d : DraftValue). IsWhole d) e whole) (subst (λ (d : DraftValue). IsDraftText d text) e prints) has))

        pub written_list : (to : L) → had ≢ Some text → puts place text to → ListsOn puts refuses listing rows now old k.Written (record { looked = Some now; draft = left; text = Some text; place = to })
        written_list to not put = came k.Written (record { looked = Some now; draft = left; text = Some text; place = to })
            (subst (λ (d : Option DraftValue). ListsOn puts refuses listing rows now Here k.Written (record { looked = Some now; draft = d; text = Some text; place = to })) (sym gone)
            (written text to due_here (subst (λ (d : DraftValue). IsWhole d) e whole) (subst (λ (d : DraftValue). IsDraftText d text) e prints) not put))

        pub refused_list : (to : L) → had ≢ Some text → refuses place text to → ListsOn puts refuses listing rows now old k.Failed (record { looked = Some now; draft = left; text = had; place = to })
        refused_list to not refuse = came k.Failed (record { looked = Some now; draft = left; text = had; place = to })
            (subst (λ (d : Option DraftValue). ListsOn puts refuses listing rows now Here k.Failed (record { looked = Some now; draft = d; text = had; place = to })) (sym gone)
            (refused text to due_here (subst (λ (d : DraftValue). IsWhole d) e whole) (subst (λ (d : DraftValue). IsDraftText d text) e prints) not refuse))
