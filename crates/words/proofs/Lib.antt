mod WordLaws
