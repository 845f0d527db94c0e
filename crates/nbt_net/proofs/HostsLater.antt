-- A host's life by a clock that shows a constant more.
use Rattle.std.proofs.Common.{◌≡◌, ℕ, ◌+◌, ◌<◌, false, List, [], ◌∷◌, map, Option, Some, None, refl, sym, ap, subst, ◌∙◌, arith, option_map}
use Rattle.std.proofs.lemmas.Bool.{leb-false, lt-leb, false≢true}
use Rattle.nbt_name.specs.declared.addr.Addr.{Addr}
use Rattle.nbt_name.specs.Wire.{NameValue}
use Rattle.nbt_packet.specs.Message.{MessageValue, query}
use Rattle.nbt_lease.specs.Config.{ConfigValue}
use Rattle.nbt_node.specs.Node.{NodeValue, slots_most}
use Rattle.nbt_node.specs.Moves.{Told, ask, give_back}
use Rattle.nbt_node.specs.Answering.{sent_back, answer_if}
use Rattle.nbt_node.specs.Shifted.{shifted_node, StartsAlike, TellsAlike, DoesAlike}
use Rattle.nbt_port.specs.PortCalls.{PortCall, came, Chain}
use Rattle.nbt_client.specs.Turning.{AsksFor, PollsTo, polls_to, EndsPolls, has_nothing, polls_back}
use Rattle.nbt_host.specs.declared.goal.Goal.{Goal}
use Rattle.nbt_host.specs.declared.goal.Refusal.{Refusal}
use Rattle.nbt_host.specs.declared.news.Notice.{Notice}
use Rattle.nbt_host.specs.Goals.{back_off, may_ask}
use Rattle.nbt_host.specs.Noticing.{doubted, notice_of}
use Rattle.nbt_host.specs.Hosting.{sending_to, Requests, asks, may_not_ask, backs_off, gives_back, may_not_give_back, doubting, HostHears, hears_nothing, hears_back, hears, LosesReply, loses_reply}
use Rattle.nbt_net.specs.Wire.{Act}
use Rattle.nbt_net.specs.Hosts as hosts
use Rattle.nbt_net.specs.Hosts.{HostActs, HostLives}
use Rattle.nbt_net.specs.Restarts.{later_act, HostsLiveLater}

pub record NodeAlike : Type 0 where
  pub start : (more : ℕ) → StartsAlike more
  pub tells : (more : ℕ) (node : NodeValue) (now : ℕ) (name : NameValue) → TellsAlike more node now name
  pub does : (more : ℕ) (old : NodeValue) (now : ℕ) (new : NodeValue) → DoesAlike more old now new

module _ (law : NodeAlike) (more : ℕ) where
  -- ---- requests

  asks_alike : (goal : Goal) {now : ℕ} {old new : NodeValue} {octets : List ℕ} → AsksFor now goal.want old octets new → AsksFor (now + more) goal.want (shifted_node more old) octets (shifted_node more new)
  asks_alike goal {now} {old} {new} {octets} a = record { may = (law.tells more old now goal.want.name).ask ∙ a.may; sends = (law.does more old now new).sends goal.want.name (ask goal.want.kind goal.want.ttl) octets a.sends }

  still_backs_off : (now : ℕ) (refusal : Option Refusal) → may_ask now refusal ≡ false → (later : Option Refusal) × (may_ask (now + more) later ≡ false)
  still_backs_off now None no_refusal = absurd (false≢true (sym no_refusal))
  still_backs_off now (Some r) early =
      let soon : now < r.at + back_off r.times = leb-false (r.at + back_off r.times) now early in
      (Some (record r { at = r.at + more }), lt-leb (r.at + more + back_off r.times) (now + more) (omega (arith, soon)))

  requests_alike : {now : ℕ} {old new : NodeValue} {goal : Goal} {request : Option (List ℕ)} → Requests now old goal request new → (later : Goal) × Requests (now + more) (shifted_node more old) later request (shifted_node more new)
  requests_alike {goal = goal} (asks octets new wanted may does) = (record goal { refusal = None }, asks octets (shifted_node more new) wanted refl (asks_alike goal does))
  requests_alike {now} {old} {goal = goal} (may_not_ask fault wanted may refused) = (record goal { refusal = None }, may_not_ask fault wanted refl ((law.tells more old now goal.want.name).ask ∙ refused))
  requests_alike {now} {goal = goal} (backs_off wanted may) = let later = still_backs_off now goal.refusal may in (record goal { refusal = later.0 }, backs_off wanted later.1)
  requests_alike {now} {old} {goal = goal} (gives_back octets new unwanted may does) =
      (goal, gives_back octets (shifted_node more new) unwanted ((law.tells more old now goal.want.name).release ∙ may) ((law.does more old now new).sends goal.want.name give_back octets does))
  requests_alike {now} {old} {goal = goal} (may_not_give_back fault unwanted refused) = (goal, may_not_give_back fault unwanted ((law.tells more old now goal.want.name).release ∙ refused))

  -- ---- polls

  polls_to_alike : {now : ℕ} {old new : NodeValue} {call : PortCall} → PollsTo now old call new → PollsTo (now + more) (shifted_node more old) call (shifted_node more new)
  polls_to_alike {now} {old} (polls_to to octets new does) = polls_to to octets (shifted_node more new) ((law.does more old now new).polls (Some to) octets does)

  ends_polls_alike : {now : ℕ} {old new : NodeValue} → EndsPolls now old new → EndsPolls (now + more) (shifted_node more old) (shifted_node more new)
  ends_polls_alike {now} {old} (has_nothing octets new does) = has_nothing octets (shifted_node more new) ((law.does more old now new).polls None octets does)
  ends_polls_alike (polls_back early) = polls_back (omega (arith, early))

  -- ---- what is heard

  back_alike : (node : NodeValue) (now : ℕ) (message : Option MessageValue) (told : Told) (reply : List ℕ) → sent_back (shifted_node more node) (now + more) message told reply ≡ sent_back node now message told reply
  back_alike node now None told reply = refl
  back_alike node now (Some (query id name)) told reply = ap (λ k. answer_if node id name k) (law.tells more node now name).held
  back_alike node now (Some message) told reply = refl

  doubting_alike : (node : NodeValue) (now : ℕ) (name : Option NameValue) → doubting (shifted_node more node) name ≡ shifted_node more (doubting node name)
  doubting_alike node now None = refl
  doubting_alike node now (Some name) = (law.tells more node now name).soon

  hears_alike : {server : Addr} {now : ℕ} {old new : NodeValue} {calls : List PortCall} {notice : Option Notice} → HostHears server now old calls notice new → HostHears server (now + more) (shifted_node more old) calls notice (shifted_node more new)
  hears_alike hears_nothing = hears_nothing
  hears_alike (hears_back from octets early) = hears_back from octets (omega (arith, early))
  hears_alike {server} {now} {old} (hears from octets reply message told mid handles says) =
      let a = (law.does more old now mid).handles from.peer octets told reply handles in
      let notice = notice_of server from.peer message told in
      let name = doubted server from.peer message told in
      subst (λ (n : NodeValue). HostHears server (now + more) (shifted_node more old) (came from octets ∷ sending_to from (sent_back mid now message told reply)) notice n) (doubting_alike mid now name)
      (subst (λ (said : Option (List ℕ)). HostHears server (now + more) (shifted_node more old) (came from octets ∷ sending_to from said) notice (doubting (shifted_node more mid) name)) (back_alike mid now message told reply)
      (hears from octets reply message told (shifted_node more mid) a.0 says))

  loses_alike : {now : ℕ} {old new : NodeValue} {calls : List PortCall} → LosesReply now old calls new → LosesReply (now + more) (shifted_node more old) calls (shifted_node more new)
  loses_alike {now} {old} (loses_reply from octets reply lost message told new handles says is) =
      loses_reply from octets reply lost message told (shifted_node more new) ((law.does more old now new).handles from.peer octets told reply handles).0 says (back_alike new now message told reply ∙ is)

  -- ---- a life

  acts_alike : {server : Addr} {now : ℕ} {old new : NodeValue} {calls : List PortCall} → HostActs server now old calls new → HostActs server (now + more) (shifted_node more old) calls (shifted_node more new)
  acts_alike (hosts.requests goal request new does) = let r = requests_alike does in hosts.requests r.0 request (shifted_node more new) r.1
  acts_alike (hosts.loses_request goal octets new does) = let r = requests_alike does in hosts.loses_request r.0 octets (shifted_node more new) r.1
  acts_alike (hosts.polls call new does) = hosts.polls call (shifted_node more new) (polls_to_alike does)
  acts_alike {now = now} {old} (hosts.loses_poll to octets new does) = hosts.loses_poll to octets (shifted_node more new) ((law.does more old now new).polls (Some to) octets does)
  acts_alike (hosts.ends_polls new does) = hosts.ends_polls (shifted_node more new) (ends_polls_alike does)
  acts_alike (hosts.hears calls notice new does) = hosts.hears calls notice (shifted_node more new) (hears_alike does)
  acts_alike (hosts.loses_reply calls new does) = hosts.loses_reply calls (shifted_node more new) (loses_alike does)
  acts_alike hosts.cannot_hear = hosts.cannot_hear

  lives_alike : {config : ConfigValue} {server at : Addr} {old new : Option NodeValue} {act : Act} → HostLives config server at old act new
      → HostLives config server at (option_map (shifted_node more) old) (later_act more act) (option_map (shifted_node more) new)
  lives_alike {config} {server} {at} (hosts.starts now first_id) =
      subst (λ (n : NodeValue). HostLives config server at None (record { now = now + more; calls = [] }) (Some n)) (law.start more slots_most at server config now first_id) (hosts.starts (now + more) first_id)
  lives_alike (hosts.does now calls old new does) = hosts.does (now + more) calls (shifted_node more old) (shifted_node more new) (acts_alike does)
  lives_alike (hosts.crashes now node) = hosts.crashes (now + more) (shifted_node more node)

  all_alike : (config : ConfigValue) (server at : Addr) (acts : List Act) (old new : Option NodeValue) → Chain (HostLives config server at) old acts new
      → Chain (HostLives config server at) (option_map (shifted_node more) old) (map (later_act more) acts) (option_map (shifted_node more) new)
  all_alike config server at [] old new chain = ap (option_map (shifted_node more)) chain
  all_alike config server at (act ∷ acts) old new chain = (option_map (shifted_node more) chain.0, lives_alike chain.1, all_alike config server at acts chain.0 new chain.2)

pub hosts_live_later : NodeAlike → HostsLiveLater
hosts_live_later law config server at more old new acts chain = all_alike law more config server at acts old new chain
