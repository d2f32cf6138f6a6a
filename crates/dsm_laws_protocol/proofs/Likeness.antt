-- Situations that are alike: the law of a lock carries over.
use Rattle.std.specs.Prelude.{◌≡◌, ℕ, List, length}
use Rattle.std.proofs.Common.{sym, ap, ◌∙◌, subst}
use Rattle.dsm_base.specs.declared.names.Mode.{Mode}
use Rattle.dsm_lines.specs.declared.of_objects.MailGrant.{MailGrant}
use Rattle.dsm_home.specs.declared.waiting.Waiting.{Waiting}
use Rattle.dsm_laws_protocol.specs.Courses.{Move}
use Rattle.dsm_laws_protocol.specs.Situations.{fresh, AreGrants, Stands, is_apart, is_waiting, is_granted, has_taken, Situation, IsLawful, modes_of, waits_of}

-- only grants for turns that are still to come count
stands_fresh : (q k version : ℕ) (moves : List Move) (modes : List Mode) (waits : List Waiting) (grants others : List MailGrant) → fresh (length moves) others ≡ fresh (length moves) grants →
    Stands q moves k version modes waits grants → Stands q moves k version modes waits others
stands_fresh q k version moves modes waits grants others e (is_apart c m w f) = is_apart c m w (e ∙ f)
stands_fresh q k version moves modes waits grants others e (is_waiting claim own c m w l f) = is_waiting claim own c m w l (e ∙ f)
stands_fresh q k version moves modes waits grants others e (is_granted claim c m w l f) =
    is_granted claim c m w l record { some = λ i. f.some (sym e ∙ i); each = subst (AreGrants claim version) (sym e) f.each }
stands_fresh q k version moves modes waits grants others e (has_taken claim c m w g u f) = has_taken claim c m w g u (e ∙ f)

fresh_lawful : (procs : ℕ) (s : Situation) (grants : ℕ → List MailGrant) → ((q : ℕ) → fresh (length (s.moves q)) (grants q) ≡ fresh (length (s.moves q)) (s.grants q)) → IsLawful procs s → IsLawful procs (record s { grants = grants })
fresh_lawful procs s grants e h = record {
  courses = h.courses;
  within = h.within;
  asked = h.asked;
  stands = λ q. stands_fresh q (s.handled q) s.state.version (s.moves q) (modes_of q s.state.holders) (waits_of q s.state.queue) (s.grants q) (grants q) (e q) (h.stands q);
  together = h.together;
  is_version = h.is_version;
}

-- the same but for grants of turns that are over
pub record AreAlike (s now : Situation) : Type 0 where
  pub moves : (q : ℕ) → s.moves q ≡ now.moves q
  pub handled : (q : ℕ) → s.handled q ≡ now.handled q
  pub grants : (q : ℕ) → fresh (length (s.moves q)) (now.grants q) ≡ fresh (length (s.moves q)) (s.grants q)
  pub state : s.state ≡ now.state

pub lawful_alike : (procs : ℕ) (s now : Situation) → AreAlike s now → IsLawful procs s → IsLawful procs now
lawful_alike procs s now like h =
    subst (IsLawful procs) (λ i. record {
      moves = λ q. like.moves q i;
      handled = λ q. like.handled q i;
      grants = now.grants;
      state = like.state i;
    }) (fresh_lawful procs s now.grants like.grants h)

-- the same grants are the same that count
pub same_fresh : (s : Situation) (q : ℕ) (grants : List MailGrant) → grants ≡ s.grants q → fresh (length (s.moves q)) grants ≡ fresh (length (s.moves q)) (s.grants q)
same_fresh s q grants e = ap (fresh (length (s.moves q))) e
