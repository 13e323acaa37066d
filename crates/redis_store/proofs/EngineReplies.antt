-- What replies say of an engine's states.
use Rattle.std.proofs.Common.{◌≡◌, inl, inr, ℕ, zero, suc, ◌+◌, ◌<◌, List, [], ◌∷◌, ◌++◌, length, map, Bool, true, false, Option, Some, None, All, IfSome, Contains, refl, sym, ap, subst, ◌∙◌, append-nil, arith}
use Rattle.std.proofs.lemmas.List.Elements.{All-head, All-tail, Contains-append_right}
use Rattle.std.proofs.lemmas.List.Folds.{flat_map-map}
use Rattle.std.proofs.lemmas.List.FromFn.{length-map-range_with_len}
use Rattle.std.specs.List.{range_with_len, AllZip}
use Rattle.std.specs.Prelude.{flat_map}
use Rattle.resp.specs.declared.reply.Reply.{Reply}
use Rattle.resp.specs.Spelled.{SpellsReply, SpellsAll}
use Rattle.redis_store.specs.declared.connection.Greeting.{Greeting}
use Rattle.redis_store.specs.Keys.{key}
use Rattle.redis_store.specs.Commands.{get_command, exists_command, put_command, set_command, delete_command, exists_below, get_below}
use Rattle.redis_store.specs.Replies.{GivesShare}
use Rattle.redis_store.specs.Answers.{SayWhich, GiveShares, numbered_share}
use Rattle.redis_store.specs.Exchanges.{Talk, with_exchange, short_limits, value_limits}
use Rattle.redis_store.specs.Put.{IsPutBy}
use Rattle.redis_store.specs.Told.{IsToldIn, IsSaidBy, AreSaidBy, IsSetBy, IsShareGivenBy, AreSharesGivenBy}
use Rattle.redis_store.specs.Engine.{EngineValue, EngineState, nothing, of_bytes, of_other_kind, is_something, StoodUnder, IsGetReply, IsExistsReply, IsEngineExchange}
use Rattle.redis_store.specs.EngineShares.{value_share, AreSeenUnder, shares_seen, number_if, numbers_seen}

-- ---- one command, and one reply

one_told : (f : List ℕ → List ℕ) (name : List ℕ) → f name ≡ flat_map f (name ∷ [])
one_told f name = sym (append-nil (f name))

one_spelled : {A : Type 0} (Spells : A → List ℕ → Type 0) (a : A) (bytes : List ℕ) → Spells a bytes → SpellsAll Spells (a ∷ []) bytes
one_spelled Spells a bytes one = (bytes, [], one, refl, sym (append-nil bytes))

exchanges_of : Talk → List (List ℕ × List ℕ)
exchanges_of None = []
exchanges_of (Some (all, before)) = all

-- what was told and came in a call is the last exchange
pub last_exchange : (is_open : Bool) (first : Greeting) (old new : Talk) (commands came : List ℕ) (last : List ℕ × List ℕ) (all : List (List ℕ × List ℕ)) (before : List (List (List ℕ × List ℕ))) → IsToldIn is_open first old new commands came → new ≡ Some (last ∷ all, before) → last ≡ (commands, came)
unfolding exchanges_of
last_exchange is_open first old new commands came last all before by is = by_ready by.ready by.told
  where
    by_ready : (ready : Talk) → new ≡ with_exchange ready commands came → last ≡ (commands, came)
    by_ready None told = cc
    by_ready (Some (some, others)) told = let same : last ∷ all ≡ (commands, came) ∷ some = ap exchanges_of (sym is ∙ told) in cc

-- what a reply gives is the share that stood
share_stood : (states : List EngineState) (name : List ℕ) (answer : Reply) (share : Option (List ℕ)) → IsGetReply states name answer → GivesShare answer share → IfSome share (λ bytes. 0 < length bytes)
    → (value : EngineValue) × StoodUnder states name value × (share ≡ value_share value)
share_stood states name answer None is (inl none) some = (nothing, is nothing none, refl)
share_stood states name answer None is (inr (inl empty)) some = (of_bytes [], is (of_bytes []) empty, refl)
share_stood states name answer None is (inr (inr other)) some = (of_other_kind, is of_other_kind other, refl)
share_stood states name answer (Some []) is gives some = absurd (omega (arith, some))
share_stood states name answer (Some (byte ∷ bytes)) is gives some = (of_bytes (byte ∷ bytes), is (of_bytes (byte ∷ bytes)) gives, refl)

module _ (is_open : Bool) (first : Greeting) (old new : Talk) (states : List EngineState) (name : List ℕ) where
  pub given_stood : (longest : ℕ) (share : Option (List ℕ)) (by : IsShareGivenBy is_open first old new longest (get_command name) share) → IfSome share (λ bytes. 0 < length bytes) → IsEngineExchange states (get_command name, by.came)
      → (value : EngineValue) × StoodUnder states name value × (share ≡ value_share value)
  given_stood longest share by some engine =
      let each = engine.gets (value_limits longest) (name ∷ []) (by.answer ∷ []) (one_told get_command name) refl (one_spelled (SpellsReply (value_limits longest)) by.answer by.came by.spelled) in
      share_stood states name by.answer share each.0 by.gives some

  pub said_stood : (said : Bool) (by : IsSaidBy is_open first old new (exists_command name) said) → IsEngineExchange states (exists_command name, by.came)
      → (value : EngineValue) × StoodUnder states name value × (said ≡ is_something value)
  said_stood said by engine =
      let each = engine.exist short_limits (name ∷ []) (by.answer ∷ []) (one_told exists_command name) refl (one_spelled (SpellsReply short_limits) by.answer by.came by.spelled) in
      let at = each.0 said by.is_said in (at.0, at.1, sym at.2)

  pub anew_stood : (content : List ℕ) (said : Bool) (by : IsSaidBy is_open first old new (put_command name content) said) → IsEngineExchange states (put_command name content, by.came)
      → (value : EngineValue) × StoodUnder states name value × (is_something value ≡ true) × (said ≡ true → value ≡ of_bytes content)
  anew_stood content true by engine =
      let step = (engine.put short_limits name content by.answer refl by.spelled).done by.is_said in
      let there : Contains (step.2.0 ++ step.0 ∷ step.1 ∷ step.2.1) step.1 = Contains-append_right step.2.0 (step.0 ∷ step.1 ∷ step.2.1) step.1 (1, omega arith, refl) in
      (of_bytes content, (step.1, subst (λ (l : List EngineState). Contains l step.1) (sym step.2.2) there, step.4), refl, λ _. refl)
  anew_stood content false by engine =
      let at = (engine.put short_limits name content by.answer refl by.spelled).kept by.is_said in
      (at.0, at.1, at.2, λ is. absurd (let never : false ≡ true = is in cc))

  pub set_stood : (content : List ℕ) (by : IsSetBy is_open first old new name content) → IsEngineExchange states (set_command name content, by.came)
      → StoodUnder states name (of_bytes content)
  set_stood content by engine = engine.replace short_limits name content by.answer refl by.spelled by.is_done

  pub lost_stood : (said : Bool) (by : IsSaidBy is_open first old new (delete_command name) said) → IsEngineExchange states (delete_command name, by.came)
      → StoodUnder states name nothing
  lost_stood true by engine =
      let step = (engine.delete short_limits name by.answer refl by.spelled).done by.is_said in
      let there : Contains (step.2.0 ++ step.0 ∷ step.1 ∷ step.2.1) step.1 = Contains-append_right step.2.0 (step.0 ∷ step.1 ∷ step.2.1) step.1 (1, omega arith, refl) in
      (step.1, subst (λ (l : List EngineState). Contains l step.1) (sym step.2.2) there, step.4)
  lost_stood false by engine = (engine.delete short_limits name by.answer refl by.spelled).none by.is_said

-- ---- a share that was put

bytes_of : (value : EngineValue) (content : List ℕ) → Some content ≡ value_share value → value ≡ of_bytes content
bytes_of nothing content is = cc
bytes_of (of_bytes []) content is = cc
bytes_of (of_bytes (byte ∷ bytes)) content is = cc
bytes_of of_other_kind content is = cc

-- in its last exchange
pub put_stood : (is_open : Bool) (first : Greeting) (old new : Talk) (states : List EngineState) (longest : ℕ) (name content : List ℕ) (put : Bool) (last : List ℕ × List ℕ) (all : List (List ℕ × List ℕ)) (before : List (List (List ℕ × List ℕ)))
    → IsPutBy is_open first old new longest name content put → 0 < length content → new ≡ Some (last ∷ all, before) → IsEngineExchange states last → StoodUnder states name (of_bytes content)
put_stood is_open first old new states longest name content true last all before (inl by) some is engine =
    let same = last_exchange is_open first old new (put_command name content) by.came last all before by.told is in
    let at = anew_stood is_open first old new states name content true by (subst (IsEngineExchange states) same engine) in
    subst (StoodUnder states name) (at.3 refl) at.1
put_stood is_open first old new states longest name content true last all before (inr by) some is engine =
    let same = last_exchange true first by.between new (set_command name content) by.put.came last all before by.put.told is in
    set_stood true first by.between new states name content by.put (subst (IsEngineExchange states) same engine)
put_stood is_open first old new states longest name content false last all before by some is engine =
    let same = last_exchange true first by.between new (get_command name) by.given.came last all before by.given.told is in
    let at = given_stood true first by.between new states name longest (Some content) by.given some (subst (IsEngineExchange states) same engine) in
    subst (StoodUnder states name) (bytes_of at.0 content at.2) at.1

-- ---- a command of each number, and as many replies

module _ (states : List EngineState) (grid index : List ℕ) where
  -- what stood under the numbers from one on, of which the next one is written another way
  from_next : (number len : ℕ) (values : List EngineValue) → AllZip (λ n value. StoodUnder states (key grid index n) value) (range_with_len (suc number) len) values → AllZip (λ n value. StoodUnder states (key grid index n) value) (range_with_len (number + 1) len) values
  from_next number len values stood =
      let step : suc number ≡ number + 1 = omega arith in
      subst (λ k. AllZip (λ n value. StoodUnder states (key grid index n) value) (range_with_len k len) values) step stood

  gathered : (answers : List Reply) (number len : ℕ) (shares : List (ℕ × List ℕ)) → AllZip (IsGetReply states) (map (key grid index) (range_with_len number len)) answers → GiveShares number answers shares → All (λ share. 0 < length share.1) shares
      → (values : List EngineValue) × AllZip (λ n value. StoodUnder states (key grid index n) value) (range_with_len number len) values × (shares ≡ shares_seen number values)
  gathered [] number zero shares each give some = ([], tt, give)
  gathered [] number (suc len) shares each give some = absurd each
  gathered (answer ∷ answers) number zero shares each give some = absurd each
  gathered (answer ∷ answers) number (suc len) shares each (inl (bytes, gives, (rest, is, more))) some =
      let step : number + 1 ≡ suc number = omega arith in
      let all : All (λ (share : ℕ × List ℕ). 0 < length share.1) ((number, bytes) ∷ rest) = subst (All (λ (share : ℕ × List ℕ). 0 < length share.1)) is some in
      let here = share_stood states (key grid index number) answer (Some bytes) each.0 gives (All-head (λ (share : ℕ × List ℕ). 0 < length share.1) (number, bytes) rest all) in
      let then = gathered answers (suc number) len rest (subst (λ n. AllZip (IsGetReply states) (map (key grid index) (range_with_len n len)) answers) step each.1) more (All-tail (λ (share : ℕ × List ℕ). 0 < length share.1) (number, bytes) rest all) in (
        here.0 ∷ then.0,
        (here.1, from_next number len then.0 then.1),
        is ∙ ap (λ (l : List (ℕ × List ℕ)). (number, bytes) ∷ l) then.2 ∙ ap (λ o. numbered_share number o ++ shares_seen (suc number) then.0) here.2,
      )
  gathered (answer ∷ answers) number (suc len) shares each (inr (gives, more)) some =
      let step : number + 1 ≡ suc number = omega arith in
      let here = share_stood states (key grid index number) answer None each.0 gives tt in
      let then = gathered answers (suc number) len shares (subst (λ n. AllZip (IsGetReply states) (map (key grid index) (range_with_len n len)) answers) step each.1) more some in (
        here.0 ∷ then.0,
        (here.1, from_next number len then.0 then.1),
        then.2 ∙ ap (λ o. numbered_share number o ++ shares_seen (suc number) then.0) here.2,
      )

  said : (answers : List Reply) (number len : ℕ) (numbers : List ℕ) → AllZip (IsExistsReply states) (map (key grid index) (range_with_len number len)) answers → SayWhich number answers numbers
      → (values : List EngineValue) × AllZip (λ n value. StoodUnder states (key grid index n) value) (range_with_len number len) values × (numbers ≡ numbers_seen number values)
  said [] number zero numbers each say = ([], tt, say)
  said [] number (suc len) numbers each say = absurd each
  said (answer ∷ answers) number zero numbers each say = absurd each
  said (answer ∷ answers) number (suc len) numbers each (inl (says, (rest, is, more))) =
      let step : number + 1 ≡ suc number = omega arith in
      let here = each.0 true says in
      let then = said answers (suc number) len rest (subst (λ n. AllZip (IsExistsReply states) (map (key grid index) (range_with_len n len)) answers) step each.1) more in (
        here.0 ∷ then.0,
        (here.1, from_next number len then.0 then.1),
        is ∙ ap (λ (l : List ℕ). number ∷ l) then.2 ∙ ap (λ b. number_if number b ++ numbers_seen (suc number) then.0) (sym here.2),
      )
  said (answer ∷ answers) number (suc len) numbers each (inr (says, more)) =
      let step : number + 1 ≡ suc number = omega arith in
      let here = each.0 false says in
      let then = said answers (suc number) len numbers (subst (λ n. AllZip (IsExistsReply states) (map (key grid index) (range_with_len n len)) answers) step each.1) more in (
        here.0 ∷ then.0,
        (here.1, from_next number len then.0 then.1),
        then.2 ∙ ap (λ b. number_if number b ++ numbers_seen (suc number) then.0) (sym here.2),
      )

module _ (is_open : Bool) (first : Greeting) (old new : Talk) (states : List EngineState) (grid index : List ℕ) (count : ℕ) where
  as_many : (answers : List Reply) → length answers ≡ count → length answers ≡ length (map (key grid index) (range_with_len 0 count))
  as_many answers many = many ∙ sym (length-map-range_with_len (key grid index) 0 count)

  pub all_given_stood : (longest : ℕ) (shares : List (ℕ × List ℕ)) (by : AreSharesGivenBy is_open first old new longest (get_below grid index count) count shares) → All (λ share. 0 < length share.1) shares → IsEngineExchange states (get_below grid index count, by.came)
      → (values : List EngineValue) × AreSeenUnder states grid index count values × (shares ≡ shares_seen 0 values)
  all_given_stood longest shares by some engine =
      let told : get_below grid index count ≡ flat_map get_command (map (key grid index) (range_with_len 0 count)) = sym (flat_map-map get_command (key grid index) (range_with_len 0 count)) in
      let each = engine.gets (value_limits longest) (map (key grid index) (range_with_len 0 count)) by.answers told (as_many by.answers by.many) by.spelled in
      gathered states grid index by.answers 0 count shares each by.give some

  pub all_said_stood : (numbers : List ℕ) (by : AreSaidBy is_open first old new (exists_below grid index count) count numbers) → IsEngineExchange states (exists_below grid index count, by.came)
      → (values : List EngineValue) × AreSeenUnder states grid index count values × (numbers ≡ numbers_seen 0 values)
  all_said_stood numbers by engine =
      let told : exists_below grid index count ≡ flat_map exists_command (map (key grid index) (range_with_len 0 count)) = sym (flat_map-map exists_command (key grid index) (range_with_len 0 count)) in
      let each = engine.exist short_limits (map (key grid index) (range_with_len 0 count)) by.answers told (as_many by.answers by.many) by.spelled in
      said states grid index by.answers 0 count numbers each by.are_said
