use Rattle.std.proofs.Common.{◌≡◌, ℕ, ◌<◌, Bool, true, false, List, ◌++◌, length, Option, Some, None, codes, sym, ◌∙◌, refl, ap, subst, string_bytes, get_or, arith}
use Rattle.std.specs.Prelude.{not, is_some, if◌then◌else◌, option_copied}
use Rattle.std.specs.Str.{bytes_eq}
use Rattle.std.proofs.lemmas.List.{get_or_default}
use Rattle.std.proofs.lemmas.Slice.Eq.{bytes_eq-Decides}
use Rattle.std.proofs.lemmas.Str.Pattern.{NoCharPasses-char}
use Rattle.http_uri.specs.Port.{IsPortNumberOf}
use Rattle.client_tasks.proofs.gateway.read_url.Goals.{in-Some-port_u16+in_ok-address-in-Some-port_u16, in-None+in_ok-address-in-None}
use Rattle.client_tasks.proofs.gateway.read_url.Goals as goal

-- texts of which a test for `!=` says no
same : (one other : List ℕ) (differ : Bool) → differ ≡ not (bytes_eq one other) → differ ≡ false → one ≡ other
same one other differ is none = (bytes_eq-Decides one other).0 (go (bytes_eq one other) (sym is ∙ none))
  where
    go : (b : Bool) → not b ≡ false → b ≡ true
    go true alike = refl
    go false alike = absurd (let clash : true ≡ false = alike in cc)

-- an option of which a test for `Some` says no
nothing : {T : Type 0} (found : Option T) (is : Bool) → is ≡ is_some found → is ≡ false → found ≡ None
nothing None is alike none = refl
nothing (Some value) is alike none = absurd (let clash : true ≡ false = sym alike ∙ none in cc)

-- the address, by whether there is a port
with_port : (port : Option ℕ) (number : ℕ) (host address : List ℕ) → port ≡ Some number → address ≡ host → address ≡ (if is_some port then host else (host ++ codes ":80"))
with_port port number host address is alike = subst (λ (p : Option ℕ). address ≡ (if is_some p then host else (host ++ codes ":80"))) (sym is) alike

without_port : (port : Option ℕ) (host address : List ℕ) → port ≡ None → address ≡ host ++ codes ":80" → address ≡ (if is_some port then host else (host ++ codes ":80"))
without_port port host address is alike = subst (λ (p : Option ℕ). address ≡ (if is_some p then host else (host ++ codes ":80"))) (sym is) alike

pub returns : goal.returns
returns c =
    let host : string_bytes c.in_ok-host.host ≡ c.as_str-text.result.now = c.in_ok-host.ensures.ok in
    let text : string_bytes c.in_ok-host.host ≡ c.in-Some-authority.authority.now = host ∙ c.as_str-text.ensures.value in
    record {
      uri = c.in-Ok.uri;
      spelled = c.in-Ok.ensures.ok;
      scheme = sym c.scheme_str.ensures.value ∙ (ap option_copied c.in-Some.is ∙ ap Some (same _ _ _ c.ne.ensures c.if-ne.false));
      authority = sym c.authority.ensures ∙ (ap option_copied c.in-Some-authority.is ∙ ap Some (sym text));
      no_user = λ k d within is.
          let inside : k < length c.as_str-text.result.now = subst (λ (t : List ℕ). k < length t) host within in
          NoCharPasses-char 64 _ k c.if-contains.ensures.cases (omega arith) inside
          (get_or_default _ k 0 d inside ∙ (ap (λ (t : List ℕ). get_or t k d) (sym host) ∙ is));
      path = sym c.path.ensures.value ∙ same _ _ _ c.ne-else-ne.ensures c.if-ne-2.false;
      no_query = sym c.query.ensures.value ∙ ap option_copied (nothing _ _ c.is_some.ensures c.if-is_some.false);
      port = c.port_u16.result;
      port_is = subst (λ (t : List ℕ). IsPortNumberOf t c.port_u16.result) (sym text) c.port_u16.ensures;
      address = elim c.match-port_u16.branch [
        | in-Some-port_u16+in_ok-address-in-Some-port_u16 w ↦
            with_port _ _ _ _ w.in-Some-port_u16.is (ap string_bytes w.address-is ∙ (w.in_ok-address-in-Some-port_u16.ensures.ok ∙ sym host))
        | in-None+in_ok-address-in-None w ↦
            without_port _ _ _ w.in-None.is (ap string_bytes w.address-is ∙ (w.in_ok-address-in-None.ensures.ok ∙ ap (λ (t : List ℕ). t ++ codes ":80") (sym host)))
      ];
    }
