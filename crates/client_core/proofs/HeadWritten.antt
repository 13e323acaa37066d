-- A head's bytes in a row.
use Rattle.std.proofs.Common.{◌≡◌, ℕ, List, [], ◌∷◌, ◌++◌, sym, ap, ◌∙◌, append_assoc, append-nil}
use Rattle.std.specs.Prelude.{codes, decimal}
use Rattle.httparse.specs.Grammar.{print_request}
use Rattle.httparse.proofs.GrammarLemmas.{cons-append}
use Rattle.client_core.specs.declared.ask.Ask.{Ask}
use Rattle.client_core.specs.Asks.{asked_head, method_of, target_of}

-- what stands between the parts
abbrev pub version_and_host : List ℕ
version_and_host = codes " HTTP/1.1" ++ (13 ∷ 10 ∷ codes "Host: ")

abbrev pub and_length : List ℕ
and_length = 13 ∷ 10 ∷ codes "Content-Length: "

abbrev pub at_the_end : List ℕ
at_the_end = 13 ∷ 10 ∷ 13 ∷ 10 ∷ []

in_a_row : (m t host digits : List ℕ)
    → ((((((m ++ 32 ∷ []) ++ t) ++ version_and_host) ++ host) ++ and_length) ++ digits) ++ at_the_end
    ≡ m ++ (32 ∷ (t ++ (version_and_host ++ (host ++ (and_length ++ (digits ++ at_the_end))))))
in_a_row m t host digits = simp append_assoc

in_parts : (m t v e host_name host length_name digits : List ℕ)
    → ((((([] ++ m) ++ 32 ∷ t) ++ 32 ∷ v) ++ e) ++ (((host_name ++ 58 ∷ 32 ∷ host) ++ e) ++ (((length_name ++ 58 ∷ 32 ∷ digits) ++ e) ++ []) ++ e))
    ≡ m ++ (32 ∷ (t ++ (32 ∷ (v ++ (e ++ (host_name ++ (58 ∷ 32 ∷ (host ++ (e ++ (length_name ++ (58 ∷ 32 ∷ (digits ++ (e ++ e)))))))))))))
in_parts m t v e host_name host length_name digits = simp (append_assoc, cons-append, append-nil)

printed : (host : List ℕ) (ask : Ask) (n : ℕ)
    → print_request (asked_head host ask n) ≡ method_of ask ++ (32 ∷ (target_of ask ++ (version_and_host ++ (host ++ (and_length ++ (decimal n ++ at_the_end))))))
unfolding print_request asked_head
printed host ask n =
    in_parts (method_of ask) (target_of ask) (codes "HTTP/1.1") (13 ∷ 10 ∷ []) (codes "Host") host (codes "Content-Length") (decimal n)

pub written : (host : List ℕ) (ask : Ask) (n : ℕ) (digits t1 t2 t3 t4 t5 t6 t7 t8 : List ℕ) → digits ≡ decimal n
    → t1 ≡ method_of ask → t2 ≡ t1 ++ 32 ∷ [] → t3 ≡ t2 ++ target_of ask → t4 ≡ t3 ++ version_and_host → t5 ≡ t4 ++ host → t6 ≡ t5 ++ and_length → t7 ≡ t6 ++ digits → t8 ≡ t7 ++ at_the_end
    → t8 ≡ print_request (asked_head host ask n)
written host ask n digits t1 t2 t3 t4 t5 t6 t7 t8 e e1 e2 e3 e4 e5 e6 e7 e8 =
    e8 ∙ ap (λ t. t ++ at_the_end) (e7 ∙ (λ i. (e6 ∙ ap (λ t. t ++ and_length) (e5 ∙ ap (λ t. t ++ host) (e4 ∙ ap (λ t. t ++ version_and_host) (e3 ∙ ap (λ t. t ++ target_of ask) (e2 ∙ ap (λ t. t ++ 32 ∷ []) e1))))) i ++ e i))
    ∙ in_a_row (method_of ask) (target_of ask) host (decimal n)
    ∙ sym (printed host ask n)
