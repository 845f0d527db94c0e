-- A turn of which nothing is printed.
use Rattle.std.proofs.Common.{◌≡◌, ℕ, Bool, true, false, List, [], ◌∷◌, ◌++◌, Option, Some, None, refl, sym, subst, append_assoc, append-nil}
use Rattle.std.specs.Prelude.{is_some, ◌||◌}
use Rattle.std.specs.List.{list_any}
use Rattle.std.proofs.lemmas.Bool.{false≢true}
use Rattle.nbt_name.specs.Wire.{NameValue}
use Rattle.nbt_name.specs.declared.addr.Addr.{Addr}
use Rattle.nbt_host.specs.declared.goal.Goal.{Goal}
use Rattle.nbt_host.specs.declared.goal.Refusal.{Refusal}
use Rattle.nbt_host.specs.declared.news.News.{News}
use Rattle.nbt_host.specs.declared.news.News.TheVariants as n
use Rattle.nbt_host.specs.TurnLines.{lapse_of, news_of, again_of, IsLineIf, TellsGoal, TellsAll, of_none, of_next, IsSilenceLine, TellsTurn, is_told, tells_silence, has_lines}

quiet_name : (second : ℕ) (name : NameValue) (log lapsed : Bool) (news : Option News) (refusal : Option Refusal) → (lapsed || is_some (news_of log news)) ≡ false
    → IsLineIf second name (lapse_of lapsed) [] × IsLineIf second name (news_of log news) [] × IsLineIf second name (again_of news refusal) []
quiet_name second name log true news refusal quiet = absurd (false≢true (sym quiet))
quiet_name second name log false None refusal quiet = (refl, refl, refl)
quiet_name second name log false (Some (n.Granted s)) refusal quiet = absurd (false≢true (sym quiet))
quiet_name second name log false (Some (n.Untimed s)) refusal quiet = absurd (false≢true (sym quiet))
quiet_name second name log false (Some (n.Brief s)) refusal quiet = absurd (false≢true (sym quiet))
quiet_name second name true false (Some (n.Renewed s)) refusal quiet = absurd (false≢true (sym quiet))
quiet_name second name false false (Some (n.Renewed s)) refusal quiet = (refl, refl, refl)
quiet_name second name log false (Some n.Doubted) refusal quiet = absurd (false≢true (sym quiet))
quiet_name second name log false (Some (n.Refused r)) refusal quiet = absurd (false≢true (sym quiet))
quiet_name second name log false (Some n.Lost) refusal quiet = absurd (false≢true (sym quiet))
quiet_name second name log false (Some (n.Freed r)) refusal quiet = (refl, refl, refl)

quiet_goal : (second : ℕ) (log : Bool) (goal : Goal) → is_told log goal ≡ false → TellsGoal second log goal []
quiet_goal second log goal quiet =
    let q = quiet_name second goal.want.name log goal.lapsed goal.news goal.refusal quiet in
    record { lapse = []; news = []; again = []; lapse_is = q.0; news_is = q.1; again_is = q.2; text_is = refl }

either_no : (a b : Bool) → (a || b) ≡ false → (a ≡ false) × (b ≡ false)
either_no true b neither = absurd (false≢true (sym neither))
either_no false b neither = (refl, neither)

-- those before are told, and of the others there is nothing to tell
quiet_rest : (second : ℕ) (log : Bool) (done rest : List Goal) → list_any (is_told log) rest ≡ false → TellsAll (TellsGoal second log) done [] → TellsAll (TellsGoal second log) (done ++ rest) []
quiet_rest second log done [] quiet before = subst (λ (goals : List Goal). TellsAll (TellsGoal second log) goals []) (sym (append-nil done)) before
quiet_rest second log done (goal ∷ rest) quiet before =
    let q = either_no (is_told log goal) (list_any (is_told log) rest) quiet in
    subst (λ (goals : List Goal). TellsAll (TellsGoal second log) goals []) (append_assoc done (goal ∷ []) rest)
    (quiet_rest second log (done ++ goal ∷ []) rest q.1 (of_next done goal [] [] before (quiet_goal second log goal q.0)))

pub quiet_turn : (second : ℕ) (log : Bool) (server : Addr) (slept : Bool) (goals : List Goal) → has_lines log slept goals ≡ false → TellsTurn second log server slept goals []
quiet_turn second log server true goals quiet = absurd (false≢true (sym quiet))
quiet_turn second log server false goals quiet =
    let q = either_no (list_any tells_silence goals) (list_any (is_told log) goals) quiet in
    record {
      sleep = [];
      silence = [];
      names = [];
      sleep_is = refl;
      silence_is = subst (λ (silent : Bool). IsSilenceLine second server silent []) (sym q.0) refl;
      names_are = quiet_rest second log [] goals q.1 of_none;
      text_is = refl;
    }
