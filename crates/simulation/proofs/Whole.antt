-- What many steps come to, and what they show.
use Rattle.std.proofs.Common.{◌≡◌, ℕ, zero, suc, List, [], ◌∷◌, ◌++◌, refl, sym, ap, ◌∙◌, append-nil}
use Rattle.simulation.specs.Outcome.{Outcome, Gives, Ends, Unfinished, events_in, ending_in}
use Rattle.simulation.specs.Steps.{Done, Goes, Stops, events_of, giving, after, exec, behind, go_on, many, shown_by}

giving_all : {D Y : Type 0} (es fs : List D) (o : Outcome D Y) → giving es (giving fs o) ≡ giving (es ++ fs) o
giving_all [] fs o = refl
giving_all (e ∷ es) fs o = ap (Gives e) (giving_all es fs o)

shown_behind : {S D Y : Type 0} (es : List D) (d : Done S D Y) → giving es (shown_by d) ≡ shown_by (behind es d)
shown_behind es (Goes fs s) = giving_all es fs Unfinished
shown_behind es (Stops fs e) = giving_all es fs (Ends e)

module _ (S D Y : Type 0) (step : S → Done S D Y) where
  pub many_none : (s : S) → many step 0 s ≡ Goes [] s
  unfolding many
  many_none s = refl

  pub many_more : (n : ℕ) (s : S) → many step (suc n) s ≡ go_on (step s) (many step n)
  unfolding many
  many_more n s = refl

  -- the outcome of a bounded run is what its steps show
  pub shows : (n : ℕ) (s : S) → exec step n s ≡ shown_by (many step n s)
  shows zero s = sym (ap shown_by (many_none s))
  shows (suc n) s = by (λ t. shows n t) (step s) ∙ sym (ap shown_by (many_more n s))
    where
      by : ((t : S) → exec step n t ≡ shown_by (many step n t)) → (d : Done S D Y) → after d (exec step n) ≡ shown_by (go_on d (many step n))
      by h (Goes es t) = ap (giving es) (h t) ∙ shown_behind es (many step n t)
      by h (Stops es e) = refl

pub events_giving : {D Y : Type 0} (es : List D) (o : Outcome D Y) → events_in (giving es o) ≡ es ++ events_in o
events_giving [] o = refl
events_giving (e ∷ es) o = ap (λ l. e ∷ l) (events_giving es o)

pub ending_giving : {D Y : Type 0} (es : List D) (o : Outcome D Y) → ending_in (giving es o) ≡ ending_in o
ending_giving [] o = refl
ending_giving (e ∷ es) o = ending_giving es o

pub events_shown : {S D Y : Type 0} (d : Done S D Y) → events_in (shown_by d) ≡ events_of d
events_shown (Goes es s) = events_giving es Unfinished ∙ append-nil es
events_shown (Stops es e) = events_giving es (Ends e) ∙ append-nil es
