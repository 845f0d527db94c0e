-- What a watcher is shown after a turn, by what was done.
use Rattle.std.proofs.Common.{◌≡◌, ◌≢◌, ℕ, List, [], ◌∷◌, ◌++◌, map, refl, sym, ap, subst, ◌∙◌, Option, None, Some}
use Rattle.std.specs.Prelude.{filter}
use Rattle.std.proofs.lemmas.List.{append_assoc, map-append}
use Rattle.nbt_port.specs.PortCalls.{Chain}
use Rattle.nbt_port.proofs.Chains.{chain-append}
use Rattle.nbt_server.specs.Serving.{ServerValue}
use Rattle.nbt_log.specs.declared.entry.Entry.{Entry}
use Rattle.nbt_nbns.specs.declared.staying.Shown.{Shown}
use Rattle.nbt_serve.specs.Waiting.{ReplyValue, WaitingValue}
use Rattle.nbt_serve.specs.declared.waiting.Sent.{Sent}
use Rattle.nbt_nbns.specs.Teller.{Sight, Seeing, SeesOne, Tells, each_or_none, entries_shown, is_shown, queued, still_untold}
use Rattle.nbt_nbns.specs.declared.teller.Untold.{Untold}

-- the first turn goes, and those behind it are left
pub one_further : (before : List Untold) (turn : Untold) (all rest first : List Untold) → all ≡ turn ∷ rest → before ++ all ≡ first → (before ++ turn ∷ []) ++ rest ≡ first
one_further before turn all rest first is left = append_assoc before (turn ∷ []) rest ∙ (ap (λ (us : List Untold). before ++ us) (sym is) ∙ left)

-- one turn more is shown
pub seen_more : {V : Type 0} (sees : Sight V) (server : ServerValue) (shown : Shown) (p q r : Seeing V) (before : List Untold) (turn : Untold) → Chain (SeesOne sees server) p (map (λ (u : Untold). record shown { entry = Some u.entry }) before) q
    → SeesOne sees server q (record shown { entry = Some turn.entry }) r → Chain (SeesOne sees server) p (map (λ (u : Untold). record shown { entry = Some u.entry }) (before ++ turn ∷ [])) r
seen_more sees server shown p q r before turn chain did =
    subst (λ (ss : List Shown). Chain (SeesOne sees server) p ss r) (sym (map-append (λ (u : Untold). record shown { entry = Some u.entry }) before (turn ∷ [])))
    (chain-append (SeesOne sees server) p q r (map (λ (u : Untold). record shown { entry = Some u.entry }) before) (record shown { entry = Some turn.entry } ∷ []) chain (r, did, refl))

-- each turn as it is shown
each_shown : (shown : Shown) (us : List Untold) → map (λ (entry : Option Entry). record shown { entry = entry }) (map (λ (u : Untold). Some u.entry) us) ≡ map (λ (u : Untold). record shown { entry = Some u.entry }) us
each_shown shown [] = refl
each_shown shown (u ∷ us) = ap (λ (ss : List Shown). record shown { entry = Some u.entry } ∷ ss) (each_shown shown us)

all_shown : (shown : Shown) (us : List Untold) → us ≢ [] → map (λ (entry : Option Entry). record shown { entry = entry }) (each_or_none us) ≡ map (λ (u : Untold). record shown { entry = Some u.entry }) us
all_shown shown [] some = absurd (some refl)
all_shown shown (u ∷ us) some = each_shown shown (u ∷ us)

module _ (server : ServerValue) (sent : Sent) (shown : Shown) (old : List Untold) where
  abbrev pub Queue : List Untold
  Queue = queued old server.last sent.ahead shown.entry

  -- what is shown, once no reply waits
  abbrev pub Told : List Untold
  Told = filter (is_shown server.table.config.life sent.left) Queue

  -- the turn goes last, and those are left out whose replies were dropped
  pub queued_then : (mid late : List Untold) (life read : ℕ) (entry : Option Entry) → life ≡ server.table.config.life → read ≡ server.last → entry ≡ shown.entry → mid ≡ queued old read sent.ahead entry
      → late ≡ filter (is_shown life sent.left) mid → late ≡ Told
  queued_then mid late life read entry life_is read_is entry_is mid_is late_is = rw (late_is, mid_is, life_is, read_is, entry_is) refl

module _ {V : Type 0} (sees : Sight V) (server : ServerValue) (waiting : WaitingValue) (sent : Sent) (shown : Shown) (old : List Untold) (before after : Seeing V) (none : waiting.replies ≡ []) (new : List Untold) where
  shown_are : entries_shown server.table.config.life sent.left waiting.replies (Queue server sent shown old) ≡ each_or_none (Told server sent shown old)
  shown_are = ap (λ (rs : List ReplyValue). entries_shown server.table.config.life sent.left rs (Queue server sent shown old)) none

  tells_so : new ≡ [] → Chain (SeesOne sees server) before (map (λ (entry : Option Entry). record shown { entry = entry }) (each_or_none (Told server sent shown old))) after → Tells sees server waiting sent shown old before new after
  tells_so no_more chain = record {
    untold_is = no_more ∙ sym (ap (λ (rs : List ReplyValue). still_untold rs (Queue server sent shown old)) none);
    seen = subst (λ (es : List (Option Entry)). Chain (SeesOne sees server) before (map (λ (entry : Option Entry). record shown { entry = entry }) es) after) (sym shown_are) chain;
  }

  pub nothing_is_shown : Told server sent shown old ≡ [] → new ≡ [] → SeesOne sees server before (record shown { entry = None }) after → Tells sees server waiting sent shown old before new after
  nothing_is_shown nothing no_more did =
      tells_so no_more (subst (λ (us : List Untold). Chain (SeesOne sees server) before (map (λ (entry : Option Entry). record shown { entry = entry }) (each_or_none us)) after) (sym nothing) (after, did, refl))

  pub each_is_shown : Told server sent shown old ≢ [] → new ≡ [] → Chain (SeesOne sees server) before (map (λ (u : Untold). record shown { entry = Some u.entry }) (Told server sent shown old)) after → Tells sees server waiting sent shown old before new after
  each_is_shown some no_more chain = tells_so no_more (subst (λ (ss : List Shown). Chain (SeesOne sees server) before ss after) (sym (all_shown shown (Told server sent shown old) some)) chain)
