-- What octets mean for a node is determined.
use Rattle.std.proofs.Common.{◌≡◌, ℕ, List, [], Option, Some, None, refl, sym, ap, subst, ◌∙◌}
use Rattle.nbt_name.specs.declared.addr.Addr.{Addr}
use Rattle.nbt_name.specs.declared.addr.Kind.{Kind}
use Rattle.nbt_name.specs.Wire.{NameValue}
use Rattle.nbt_node.specs.Node.{NodeValue, holds}
use Rattle.nbt_dgram.specs.declared.fault.DgramFault.{DgramFault}
use Rattle.nbt_dgram.specs.declared.msg_type.Delivery.{Delivery}
use Rattle.nbt_dgram.specs.declared.msg_type.Delivery.TheVariants.{DirectUnique, Broadcast}
use Rattle.nbt_dgram.specs.declared.msg_type.Lookup.{Lookup}
use Rattle.nbt_dgram.specs.declared.dgram.Names.{Names}
use Rattle.nbt_dgram.specs.declared.joined.Dropped.{Dropped}
use Rattle.nbt_dgram.specs.Dgram.{FragmentValue, BodyValue, fragment, error, lookup, DgramValue, DgramIs, FaultIs}
use Rattle.nbt_dgram.specs.Text.{text}
use Rattle.nbt_dgram.specs.Joiner.{JoinedValue, whole, waiting, dropped, JoinerValue, Puts}
use Rattle.nbt_dgram.specs.Accepting.{AcceptValue, up, reply, told, waits, nothing, not_present, Hands, handed_up, refused, silent, unfinished, was_dropped, Accepts, unreadable, error_told, lookup_ignored, broadcast_ignored, is_put}
use Rattle.nbt_dgram.proofs.OneDatagram.{reads_dgram}
use Rattle.nbt_dgram.proofs.OnePut.{one_fragment, one_put}

-- ---- what a whole datagram leads to

module _ (node : NodeValue) (now : ℕ) (own : Addr) (d : DgramValue) (delivery : Delivery) where
  held_or_not : (name : NameValue) (kind : Kind) → holds node name now ≡ Some kind → holds node name now ≡ None → ⊥
  held_or_not name kind a b = let e : ◌≡◌ {A = Option Kind} (Some kind) None = sym a ∙ b in cc

  up_is : (names : Names) (payload : List ℕ) (kind : Kind) (v : AcceptValue) (p : List ℕ) → holds node names.destination now ≡ Some kind → Hands node now own d delivery (whole names payload) v p → (up names payload ≡ v) × ([] ≡ p)
  up_is names payload kind _ _ held (handed_up _ _ _ _) = (refl, refl)
  up_is names payload kind _ _ held (refused _ _ none _) = absurd (held_or_not names.destination kind held none)
  up_is names payload kind _ _ held (silent _ _ none _) = absurd (held_or_not names.destination kind held none)

  reply_is : (names : Names) (payload : List ℕ) (v : AcceptValue) (p : List ℕ) → holds node names.destination now ≡ None → delivery ≡ DirectUnique → Hands node now own d delivery (whole names payload) v p
      → (reply d.source ≡ v) × (text (not_present d.id own) ≡ p)
  reply_is names payload _ _ none unique (handed_up _ _ kind held) = absurd (held_or_not names.destination kind held none)
  reply_is names payload _ _ none unique (refused _ _ _ _) = (refl, refl)
  reply_is names payload _ _ none unique (silent _ _ _ other) = absurd (other unique)

  silence_is : (names : Names) (payload : List ℕ) (v : AcceptValue) (p : List ℕ) → holds node names.destination now ≡ None → (delivery ≡ DirectUnique → ⊥) → Hands node now own d delivery (whole names payload) v p → (nothing ≡ v) × ([] ≡ p)
  silence_is names payload _ _ none other (handed_up _ _ kind held) = absurd (held_or_not names.destination kind held none)
  silence_is names payload _ _ none other (refused _ _ _ unique) = absurd (other unique)
  silence_is names payload _ _ none other (silent _ _ _ _) = (refl, refl)

  waits_is : (v : AcceptValue) (p : List ℕ) → Hands node now own d delivery waiting v p → (waits ≡ v) × ([] ≡ p)
  waits_is _ _ unfinished = (refl, refl)

  dropped_is : (reason : Dropped) (v : AcceptValue) (p : List ℕ) → Hands node now own d delivery (dropped reason) v p → (nothing ≡ v) × ([] ≡ p)
  dropped_is reason _ _ (was_dropped _) = (refl, refl)

  one_hand : (j : JoinedValue) (u v : AcceptValue) (o p : List ℕ) → Hands node now own d delivery j u o → Hands node now own d delivery j v p → (u ≡ v) × (o ≡ p)
  one_hand _ _ v _ p (handed_up names payload kind held) y = up_is names payload kind v p held y
  one_hand _ _ v _ p (refused names payload none unique) y = reply_is names payload v p none unique y
  one_hand _ _ v _ p (silent names payload none other) y = silence_is names payload v p none other y
  one_hand _ _ v _ p unfinished y = waits_is v p y
  one_hand _ _ v _ p (was_dropped reason) y = dropped_is reason v p y

-- ---- octets

module _ (old : JoinerValue) (now : ℕ) (node : NodeValue) (own : Addr) (octets : List ℕ) where
  same : (c d : DgramValue) (n m : ℕ) → DgramIs octets c n → DgramIs octets d m → c ≡ d
  same c d n m a b = ap (λ (x : DgramValue × ℕ). x.0) ((reads_dgram octets).one_value (c, n) (d, m) a b)

  -- the body of the one datagram
  body_of_one : (c d : DgramValue) (n m : ℕ) (b : BodyValue) → DgramIs octets c n → DgramIs octets d m → d.body ≡ b → c.body ≡ b
  body_of_one c d n m b x y is = ap (λ (e : DgramValue). e.body) (same c d n m x y) ∙ is

  fault_is : (f : DgramFault) (v : AcceptValue) (p : List ℕ) (y : JoinerValue) → FaultIs octets f → Accepts old now node own octets v p y → (nothing ≡ v) × ([] ≡ p) × (old ≡ y)
  fault_is f _ _ _ bad (unreadable _ _) = (refl, refl, refl)
  fault_is f _ _ _ bad (error_told d n code is _) = absurd ((reads_dgram octets).not_both (d, n) f is bad)
  fault_is f _ _ _ bad (lookup_ignored d n l name is _) = absurd ((reads_dgram octets).not_both (d, n) f is bad)
  fault_is f _ _ _ bad (broadcast_ignored d n g is _ _) = absurd ((reads_dgram octets).not_both (d, n) f is bad)
  fault_is f _ _ _ bad (is_put d n g joined outcome sent new is _ _ _ _) = absurd ((reads_dgram octets).not_both (d, n) f is bad)

  error_is : (c : DgramValue) (m k : ℕ) (v : AcceptValue) (p : List ℕ) (y : JoinerValue) → DgramIs octets c m → c.body ≡ error k → Accepts old now node own octets v p y → (told c.id k ≡ v) × ([] ≡ p) × (old ≡ y)
  error_is c m k _ _ _ at b (unreadable f bad) = absurd ((reads_dgram octets).not_both (c, m) f at bad)
  error_is c m k _ _ _ at b (error_told d n code is body) =
      let e : error k ≡ error code = sym b ∙ body_of_one c d m n (error code) at is body in
      let codes : k ≡ code = cc in
      (λ i. told (same c d m n at is i).id (codes i), refl, refl)
  error_is c m k _ _ _ at b (lookup_ignored d n l name is body) = absurd (let e : error k ≡ lookup l name = sym b ∙ body_of_one c d m n (lookup l name) at is body in cc)
  error_is c m k _ _ _ at b (broadcast_ignored d n g is body _) = absurd (let e : error k ≡ fragment g = sym b ∙ body_of_one c d m n (fragment g) at is body in cc)
  error_is c m k _ _ _ at b (is_put d n g joined outcome sent new is body _ _ _) = absurd (let e : error k ≡ fragment g = sym b ∙ body_of_one c d m n (fragment g) at is body in cc)

  lookup_is : (c : DgramValue) (m : ℕ) (l : Lookup) (name : NameValue) (v : AcceptValue) (p : List ℕ) (y : JoinerValue) → DgramIs octets c m → c.body ≡ lookup l name → Accepts old now node own octets v p y
      → (nothing ≡ v) × ([] ≡ p) × (old ≡ y)
  lookup_is c m l name _ _ _ at b (error_told d n code is body) = absurd (let e : lookup l name ≡ error code = sym b ∙ body_of_one c d m n (error code) at is body in cc)
  lookup_is c m l name _ _ _ at b (is_put d n g joined outcome sent new is body _ _ _) = absurd (let e : lookup l name ≡ fragment g = sym b ∙ body_of_one c d m n (fragment g) at is body in cc)
  lookup_is c m l name _ _ _ at b _ = (refl, refl, refl)

  broadcast_is : (c : DgramValue) (m : ℕ) (f : FragmentValue) (v : AcceptValue) (p : List ℕ) (y : JoinerValue) → DgramIs octets c m → c.body ≡ fragment f → f.delivery ≡ Broadcast → Accepts old now node own octets v p y
      → (nothing ≡ v) × ([] ≡ p) × (old ≡ y)
  broadcast_is c m f _ _ _ at b all (error_told d n code is body) = absurd (let e : fragment f ≡ error code = sym b ∙ body_of_one c d m n (error code) at is body in cc)
  broadcast_is c m f _ _ _ at b all (is_put d n g joined outcome sent new is body not _ _) =
      absurd (not (ap (λ (h : FragmentValue). h.delivery) (sym (one_fragment c.body f g b (body_of_one c d m n (fragment g) at is body))) ∙ all))
  broadcast_is c m f _ _ _ at b all _ = (refl, refl, refl)

  put_is : (c : DgramValue) (m : ℕ) (f : FragmentValue) (j : JoinedValue) (u : AcceptValue) (o : List ℕ) (x : JoinerValue) (v : AcceptValue) (p : List ℕ) (y : JoinerValue) → DgramIs octets c m → c.body ≡ fragment f → (f.delivery ≡ Broadcast → ⊥)
      → Puts old now c j x → Hands node now own c f.delivery j u o → Accepts old now node own octets v p y → (u ≡ v) × (o ≡ p) × (x ≡ y)
  put_is c m f j u o x _ _ _ at b some puts hands (unreadable g bad) = absurd ((reads_dgram octets).not_both (c, m) g at bad)
  put_is c m f j u o x _ _ _ at b some puts hands (error_told d n code is body) = absurd (let e : fragment f ≡ error code = sym b ∙ body_of_one c d m n (error code) at is body in cc)
  put_is c m f j u o x _ _ _ at b some puts hands (lookup_ignored d n l name is body) = absurd (let e : fragment f ≡ lookup l name = sym b ∙ body_of_one c d m n (lookup l name) at is body in cc)
  put_is c m f j u o x _ _ _ at b some puts hands (broadcast_ignored d n g is body all) =
      absurd (some (ap (λ (h : FragmentValue). h.delivery) (one_fragment c.body f g b (body_of_one c d m n (fragment g) at is body)) ∙ all))
  put_is c m f j u o x v p y at b some puts hands (is_put d n g k _ _ _ is body _ also other) =
      let one : c ≡ d = same c d m n at is in
      let fragments : f ≡ g = one_fragment c.body f g b (body_of_one c d m n (fragment g) at is body) in
      let put : Puts old now c k y = subst (λ (e : DgramValue). Puts old now e k y) (sym one) also in
      let joined = one_put old now c j k x y puts put in
      let there : Hands node now own c f.delivery j v p = subst (λ (e : JoinedValue). Hands node now own c f.delivery e v p) (sym joined.0)
      (subst (λ (h : FragmentValue). Hands node now own c h.delivery k v p) (sym fragments) (subst (λ (e : DgramValue). Hands node now own e g.delivery k v p) (sym one) other)) in
      let handed = one_hand node now own c f.delivery j u v o p hands there in
      (handed.0, handed.1, joined.1)

  pub one_accept : (u v : AcceptValue) (o p : List ℕ) (x y : JoinerValue) → Accepts old now node own octets u o x → Accepts old now node own octets v p y → (u ≡ v) × (o ≡ p) × (x ≡ y)
  one_accept _ v _ p _ y (unreadable fault bad) other = fault_is fault v p y bad other
  one_accept _ v _ p _ y (error_told d n code is body) other = error_is d n code v p y is body other
  one_accept _ v _ p _ y (lookup_ignored d n l name is body) other = lookup_is d n l name v p y is body other
  one_accept _ v _ p _ y (broadcast_ignored d n f is body all) other = broadcast_is d n f v p y is body all other
  one_accept _ v _ p _ y (is_put d n f joined outcome sent new is body some puts hands) other = put_is d n f joined outcome sent new v p y is body some puts hands other
