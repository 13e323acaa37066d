-- Which stores are given.
use Rattle.std.proofs.Common.{◌≡◌, ◌∙◌, ◌+◌, ◌<◌, ◌++◌, ◌==◌, ℕ, Bor, List, [], ◌∷◌, ap, arith, codes, false, get_or, length, map, ne_eqb, replicate, subst, sym, take, true, true≢false}
use Rattle.std.proofs.lemmas.List.{map-append, take_more}
use Rattle.std.specs.List.{AllZip}
use Rattle.clap.specs.Words.{Row}
use Rattle.command_words.proofs.CommandLemmas.{zip_append}
use Rattle.server_options.specs.Asked.{AreNamedStores}
use Rattle.server_options.specs.Given.{IsNumberGiven}
use Rattle.server_options.specs.Named.{AreNamesOf, IsNameOf}
use Rattle.server_options.specs.declared.store_names.StoreWanted.{StoreWanted}
use Rattle.server_options.specs.declared.store_names.StoreWanted.TheVariants.{Memory}

-- one more text, and the store that it names
pub names_more : (room : ℕ) (names : List (Bor (List ℕ))) (i : ℕ) (d : Bor (List ℕ)) (stores : List StoreWanted) (store : StoreWanted)
    → AreNamesOf room (map (λ s. s.now) (take i names)) stores → i < length names → IsNameOf room (get_or names i d).now store
    → AreNamesOf room (map (λ s. s.now) (take (i + 1) names)) (stores ++ store ∷ [])
names_more room names i d stores store before less named =
    subst (λ texts. AllZip (IsNameOf room) texts (stores ++ store ∷ []))
    (sym (ap (map (λ (s : Bor (List ℕ)). s.now)) (take_more names i d less) ∙ map-append (λ (s : Bor (List ℕ)). s.now) (take i names) (get_or names i d ∷ [])))
    (zip_append (IsNameOf room) (map (λ s. s.now) (take i names)) ((get_or names i d).now ∷ []) stores (store ∷ []) before (named, tt))

-- those that are named, where there are some
pub named_ones : (rows : List Row) (room : ℕ) (texts : List (List ℕ)) (stores : List StoreWanted) → AreNamesOf room texts stores
    → (length stores == 0) ≡ false → AreNamedStores rows room texts stores
named_ones rows room [] [] names some = absurd (true≢false some)
named_ones rows room [] (store ∷ stores) names some = absurd names
named_ones rows room (text ∷ texts) stores names some = names

-- and else those in memory
pub in_memory : (rows : List Row) (room servers : ℕ) (texts : List (List ℕ)) (named stores : List StoreWanted) → AreNamesOf room texts named
    → (length named == 0) ≡ true → IsNumberGiven 16 rows (codes "servers") 5 servers → stores ≡ replicate servers (Memory room)
    → AreNamedStores rows room texts stores
in_memory rows room servers [] named stores names none says is = (servers, (says, is))
in_memory rows room servers (text ∷ texts) [] stores names none says is = absurd names
in_memory rows room servers (text ∷ texts) (store ∷ named) stores names none says is = absurd (true≢false (sym none ∙ ne_eqb (length (store ∷ named)) 0 (λ e. omega (arith, e))))
